-- Painting back to front gives each pixel its owner's value.
use Rattle.std.proofs.Common.{◌≡◌, Bool, true, false, ◌&&◌, if◌then◌else◌, List, [], ◌∷◌, fold, Some, refl, sym, ◌∙◌, ap}
use Rattle.std.proofs.lemmas.Grind.{fold-append}
use Rattle.tb_geom.specs.declared.point.Point.{Point}
use Rattle.desk_layers.specs.declared.part.Part.{Part}
use Rattle.desk_layers.specs.Desk.{ContentLayer, LayeredWindow, LayeredDesk, IsDesk, AreParts, AreWindows, in_structure, in_bar, local, layer_of}
use Rattle.desk_layers.specs.Owner.{Owner, owner, owner_among, owner_within, own_bit}
use Rattle.desk_layers.specs.Owner.Owner.{Bar, Frame, Content}
use Rattle.desk_layers.specs.Scratch.{painted, content_layers, window_layers, layers_of, scratch}
use Rattle.desk_layers.proofs.Owning.{same_number, same_part-self, owner_is_other, own_bit-behind, layer_of-behind}

-- the value of the first content layer that holds the pixel, else the value under them
first_value : LayeredWindow → List ContentLayer → Point → Bool → Bool
first_value w [] p under = under
first_value w (l ∷ ls) p under = if l.extent (local w p) then l.picture (local w p) else first_value w ls p under

same_both : (b x : Bool) → x ≡ (if b then x else x)
same_both true x = refl
same_both false x = refl

one_layer : (s e x y d : Bool) → (if s && e then x else (if s then y else d)) ≡ (if s then (if e then x else y) else d)
one_layer true e x y d = refl
one_layer false e x y d = refl

-- the content layers over what is under them
content_painted : (w : LayeredWindow) (ls : List ContentLayer) (p : Point) (under : Bool) → fold (painted p) under (content_layers w ls) ≡ (if in_structure w p then first_value w ls p under else under)
unfolding first_value
content_painted w [] p under = same_both (in_structure w p) under
content_painted w (l ∷ ls) p under =
    fold-append (painted p) under (content_layers w ls) _
    ∙ ap (λ d. if in_structure w p && l.extent (local w p) then l.picture (local w p) else d) (content_painted w ls p under)
    ∙ one_layer (in_structure w p) (l.extent (local w p)) (l.picture (local w p)) (first_value w ls p under) under

-- the values that owners have are those of a window's frame and of these layers of its content
record Shows (value : Owner → Bool) (w : LayeredWindow) (ls : List ContentLayer) (p : Point) : Type 0 where
  frame : value (Frame w.serial) ≡ w.frame (local w p)
  content : (part : Part) (l : ContentLayer) → layer_of part ls ≡ Some l → value (Content w.serial part) ≡ l.picture (local w p)

first_is_owners : (value : Owner → Bool) (w : LayeredWindow) (ls : List ContentLayer) (p : Point) → AreParts ls → Shows value w ls p → first_value w ls p (w.frame (local w p)) ≡ value (owner_within w ls p)
unfolding first_value
first_is_owners value w [] p parts s = sym s.frame
first_is_owners value w (l ∷ ls) p parts s = one (l.extent (local w p))
    (s.content l.part l (ap (λ b. if b then Some l else layer_of l.part ls) (same_part-self l.part)))
    (first_is_owners value w ls p parts.1 (record {
      frame = s.frame;
      content = λ part found e. s.content part found (layer_of-behind l found ls part parts.0 e);
    }))
  where
    one : (b : Bool) → value (Content w.serial l.part) ≡ l.picture (local w p) → first_value w ls p (w.frame (local w p)) ≡ value (owner_within w ls p) → (if b then l.picture (local w p) else first_value w ls p (w.frame (local w p))) ≡ value (if b then Content w.serial l.part else owner_within w ls p)
    one true here behind = sym here
    one false here behind = behind

-- a window over what is behind it
one_window : (value : Owner → Bool) (w : LayeredWindow) (p : Point) (behind : Bool) (o : Owner) → AreParts w.layers → Shows value w w.layers p → behind ≡ value o → fold (painted p) behind (window_layers w) ≡ value (if in_structure w p then owner_within w w.layers p else o)
one_window value w p behind o parts s e =
    content_painted w w.layers p (if in_structure w p then w.frame (local w p) else behind)
    ∙ by_test (in_structure w p)
  where
    by_test : (b : Bool) → (if b then first_value w w.layers p (if b then w.frame (local w p) else behind) else (if b then w.frame (local w p) else behind)) ≡ value (if b then owner_within w w.layers p else o)
    by_test true = first_is_owners value w w.layers p parts s
    by_test false = e

shows_own : (desk : LayeredDesk) (w : LayeredWindow) (ws : List LayeredWindow) (p : Point) → Shows (λ o. own_bit (record desk { windows = w ∷ ws }) o p) w w.layers p
shows_own desk w ws p = record {
  frame = rw (same_number w.serial) refl;
  content = λ part l e. rw (same_number w.serial, e) refl;
}

windows_painted : (desk : LayeredDesk) (ws : List LayeredWindow) (p : Point) → AreWindows ws → fold (painted p) (desk.desktop p) (layers_of ws) ≡ own_bit (record desk { windows = ws }) (owner_among ws p) p
windows_painted desk [] p h = refl
windows_painted desk (w ∷ ws) p h =
    fold-append (painted p) (desk.desktop p) (layers_of ws) (window_layers w)
    ∙ one_window (λ o. own_bit (record desk { windows = w ∷ ws }) o p) w p _ (owner_among ws p) h.1.0 (shows_own desk w ws p)
    (windows_painted desk ws p h.1.1 ∙ sym (own_bit-behind desk w ws p (owner_among ws p) (owner_is_other ws p w.serial h.0)))

bar_painted : (value : Owner → Bool) (b x d : Bool) (o : Owner) → x ≡ value Bar → d ≡ value o → (if b then x else d) ≡ value (if b then Bar else o)
bar_painted value true x d o e f = e
bar_painted value false x d o e f = f

-- painting from nothing gives the owner's value
pub scratch_is_owners : (desk : LayeredDesk) (p : Point) → IsDesk desk → scratch desk p ≡ own_bit desk (owner desk p) p
scratch_is_owners desk p h =
    fold-append (painted p) (desk.desktop p) (layers_of desk.windows) _
    ∙ bar_painted (λ o. own_bit desk o p) (in_bar desk p) (desk.bar_picture p) _ (owner_among desk.windows p) refl (windows_painted desk desk.windows p h)
