-- Owners that are no layer of a window, and those that are of its content.
use Rattle.std.proofs.Common.{◌≡◌, ℕ, ◌==◌, Bool, true, false, not, List, [], ◌∷◌, map, None, refl, sym, ap, ◌∙◌, arith}
use Rattle.std.proofs.lemmas.Bool.{false≢true}
use Rattle.std.proofs.lemmas.Bool.Decides.{nat_tests}
use Rattle.desk_layers.specs.declared.part.Part.{Part}
use Rattle.desk_layers.specs.Desk as layers
use Rattle.desk_layers.specs.Owner.{Owner, same_owner, is_content}
use Rattle.desk_layers.specs.Owner.Owner.{Desktop, Bar, Frame, Content}
use Rattle.desk_layers.proofs.Owning.{not_first, is_other, same_owner-true, same_owner-self}
use Rattle.vis_update.specs.Records.{WindowRecord, Look, layered_window}
use Rattle.vis_update.specs.Areas.{is_content_of}

pub not_content : (n : ℕ) (u : Owner) → is_other n u ≡ true → is_content_of n u ≡ false
not_content n Desktop e = refl
not_content n Bar e = refl
not_content n (Frame s) e = refl
not_content n (Content s part) e = grind (arith, nat_tests)

pub not_same_frame : (n : ℕ) (u : Owner) → is_other n u ≡ true → same_owner u (Frame n) ≡ false
not_same_frame n Desktop e = refl
not_same_frame n Bar e = refl
not_same_frame n (Frame s) e = grind (arith, nat_tests)
not_same_frame n (Content s part) e = refl

-- what is content of a window is content
pub content_of_one : (n : ℕ) (o : Owner) → is_content_of n o ≡ true → is_content o ≡ true
content_of_one n Desktop e = absurd (false≢true e)
content_of_one n Bar e = absurd (false≢true e)
content_of_one n (Frame s) e = absurd (false≢true e)
content_of_one n (Content s part) e = refl

-- where content of a window was its content before and so was of the same layer, it had that layer
pub same_layer : (n : ℕ) (u o : Owner) → is_content_of n o ≡ true → (is_content_of n u ≡ true → u ≡ o) → is_content_of n u ≡ same_owner u o
same_layer n u o its kept = by_content (is_content_of n u) refl
  where
    by_owner : (b : Bool) → is_content_of n u ≡ false → same_owner u o ≡ b → false ≡ b
    by_owner true none e = absurd (false≢true (sym none ∙ ap (is_content_of n) (same_owner-true u o e) ∙ its))
    by_owner false none e = refl

    by_content : (b : Bool) → is_content_of n u ≡ b → is_content_of n u ≡ same_owner u o
    by_content true e = e ∙ sym (ap (λ x. same_owner x o) (kept e) ∙ same_owner-self o)
    by_content false e = e ∙ by_owner (same_owner u o) e refl

-- no layer of these windows, and not the desktop
abbrev pub AreOthers : List WindowRecord → Owner → Type 0
AreOthers [] o = same_owner o Desktop ≡ false
AreOthers (w ∷ ws) o = (is_other w.serial o ≡ true) × AreOthers ws o

-- the layers of a window are no layers of windows of other serials, and not the desktop
pub others_of : (look : Look) (n : ℕ) (part : Part) (ws : List WindowRecord) → layers.window_of n (map (layered_window look) ws) ≡ None → AreOthers ws (Content n part) × AreOthers ws (Frame n)
others_of look n part [] free = (refl, refl)
others_of look n part (w ∷ ws) free =
    let first = not_first (w.serial == n) (layered_window look w) (layers.window_of n (map (layered_window look) ws)) free in
    let away : (w.serial == n) ≡ false = first.0 in
    let rest = others_of look n part ws first.1 in
    ((ap not away, rest.0), (ap not away, rest.1))
