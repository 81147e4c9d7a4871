-- All that a list owns, put into the update region of its window, and a list that is shown anew.
use Rattle.std.proofs.Common.{◌≡◌, ℕ, ◌<◌, ◌&&◌, ◌||◌, not, Bool, true, false, if◌then◌else◌, List, length, get_or, refl, sym, ap, ◌∙◌, subst}
use Rattle.std.proofs.lemmas.Bool.{false≢true}
use Rattle.tb_geom.specs.declared.point.Point.{Point}
use Rattle.tb_geom.specs.declared.rect.Rect.{Rect}
use Rattle.tb_geom.specs.Points.{PixelSet, minus}
use Rattle.tb_geom.specs.Pixels.{Pixels, holds}
use Rattle.desk_layers.specs.declared.part.Part.{Part}
use Rattle.def_iface.specs.Slots.{TakenBox}
use Rattle.def_iface.specs.ListMeaning.{ListLoan}
use Rattle.desk_layers.specs.Change as plain
use Rattle.desk_layers.specs.Desk as layers
use Rattle.def_iface.specs.WindowMeaning.{WindowLoan}
use Rattle.desk_layers.specs.Owner.{Owner, is_content, owner, same_owner}
use Rattle.desk_layers.specs.Owner.Owner.{Content}
use Rattle.desk_layers.specs.Scratch.{scratch}
use Rattle.def_iface.specs.WindowSlots.{WindowSlot}
use Rattle.desk_layers.proofs.Owning.{same_number, same_owner-true}
use Rattle.window_list.specs.Holders.{belongs_to}
use Rattle.vis_update.specs.declared.area.Area.{Area}
use Rattle.vis_update.specs.Areas.{is_content_of, stale_in}
use Rattle.window_list.specs.declared.window.Window.{Window}
use Rattle.window_mgr.specs.declared.manager.WindowManager.{WindowManager}
use Rattle.window_mgr.specs.Edits.{IsWindowAt}
use Rattle.window_mgr.specs.FullDesk.{FullDesk, FullState, layered_desk, layered_state}
use Rattle.window_mgr.specs.Kept.{IsKept}
use Rattle.window_mgr.specs.Records.{desk_of, desk_showing, state_of, state_showing}
use Rattle.window_mgr.specs.Updating.{IsRemarked, LeavesState}
use Rattle.window_mgr.specs.Whole.{IsWholeManager}
use Rattle.window_mgr.proofs.LayerThere as there
use Rattle.window_mgr.proofs.Remarked.{area_is}
use Rattle.window_mgr.proofs.Showing.{owner_showing}
use Rattle.window_mgr.proofs.UpdateSteps.{added_is_changed, adding, remarked_showing}
use Rattle.control_mgr.proofs.Reshown.{redrawn_reshown}
use Rattle.list_mgr.specs.Changing.{LeavesShown}
use Rattle.list_mgr.specs.ListSteps.{IsLayerMarked}
use Rattle.list_mgr.specs.Within.{IsPartDrawnWithin}

-- ---- what is put into update sets, whatever controls and lists showed before

module _ (was is : List ℕ → Part → PixelSet) (before : FullState) (these : Owner → Point → Bool) where
  abbrev so : (List ℕ → Part → PixelSet) → plain.State
  so shows = layered_state (state_showing shows before)

  had_alike : (o : Owner) (p : Point) → plain.had plain.no_change (so is).desk o p ≡ plain.had plain.no_change (so was).desk o p
  had_alike o p = ap (λ x. layers.on_screen (layered_desk before.desk) p && same_owner x o) (owner_showing is before.desk p ∙ sym (owner_showing was before.desk p))

  added_before : (after : plain.State) → plain.IsChanged (adding these) (so is) after → plain.IsChanged (adding these) (so was) after
  added_before after changed = record {
    stale = λ p on.
        let o = owner after.desk p in
        changed.stale p on ∙ (λ i. if not (is_content o) then false else (if these o p then true else (if had_alike o p i then before.stale p else true)));
    image = λ p on.
        let o = owner after.desk p in
        changed.image p on ∙ (λ i. if not (is_content o) then scratch after.desk p else (if not (had_alike o p i) then false else before.image p));
  }

-- ---- all that a part of a window owns

module _ {V : Type 0} {H : V → Type 0} (loan : TakenBox V H → WindowLoan) (t : WindowManager V H) (at : ℕ) (low : at < length t.windows.records.items) (w : Window V H) (lies : IsWindowAt t.windows.records.items at w)
    (a : Area) (read : a ≡ get_or t.areas.items at a) (q : Part) (update : Pixels)
    (region : (p : Point) → holds update p ≡ (holds a.update p || (holds a.visible p && belongs_to q w.layers.layers (minus p w.layers.place)))) where
  -- the region is of the window's content
  pub region_within : IsKept loan t → (p : Point) → holds update p ≡ true → holds a.visible p ≡ true
  region_within kept p on = by_test (holds a.visible p) refl
    where
      by_test : (b : Bool) → holds a.visible p ≡ b → b ≡ true
      by_test true e = refl
      by_test false e =
          absurd (false≢true (sym (region p
          ∙ (λ i. (area_is loan t kept.slots kept.whole at low w lies a read).update p i || (e i && belongs_to q w.layers.layers (minus p w.layers.place)))
          ∙ (λ i. (e i && stale_in t.areas.items p) || false)) ∙ on))

  module _ (slots : List WindowSlot) (whole : IsWholeManager loan t slots) (is : List ℕ → Part → PixelSet) where
    -- the part is content of the window
    of_window : (o : Owner) (p : Point) → same_owner o (Content w.serial q) ≡ true → is_content_of w.serial o ≡ true
    of_window o p e = ap (is_content_of w.serial) (same_owner-true o (Content w.serial q) e) ∙ same_number w.serial

    -- what of the content is in the region
    marked_there : (p : Point) → layers.on_screen (layered_desk (desk_showing is (desk_of loan t slots))) p ≡ true
        → is_content_of w.serial (owner (layered_desk (desk_showing is (desk_of loan t slots))) p) ≡ true
        → holds update p ≡ (stale_in t.areas.items p || same_owner (owner (layered_desk (desk_showing is (desk_of loan t slots))) p) (Content w.serial q))
    marked_there p on own =
        region p
        ∙ (λ i. there.update_is loan t slots whole at low w lies a read is is q p on i || there.own_is loan t slots whole at low w lies a read is is q p on i)
        ∙ (λ i. (own i && stale_in t.areas.items p) || same_owner (owner (layered_desk (desk_showing is (desk_of loan t slots))) p) (Content w.serial q))

    pub is_marked : (was : List ℕ → Part → PixelSet) (u : WindowManager V H) → IsRemarked w.serial update (state_of loan t slots) (state_of loan u slots)
        → IsLayerMarked w.serial q (state_showing was (state_of loan t slots)) (state_showing is (state_of loan u slots))
    is_marked was u done = record {
      desk = λ i. record (done.desk i) { shows = is u.font };
      pixels = added_before was is (state_of loan t slots) (λ o p. same_owner o (Content w.serial q)) (layered_state (state_showing is (state_of loan u slots)))
          (added_is_changed loan t slots whole is w.serial update (state_showing is (state_of loan u slots)) (remarked_showing is w.serial update (state_of loan t slots) (state_of loan u slots) done)
          (λ o p. same_owner o (Content w.serial q)) of_window marked_there);
    }

  -- where the region was made the window's update region
  pub leaves_marked : {X : Type 0} {L : X → Type 0} (list_loan : TakenBox X L → ListLoan) (window : ℕ) → w.serial ≡ window → (u : WindowManager V H) → LeavesState loan (IsRemarked w.serial update) t u
      → (was is : List ℕ → Part → PixelSet) → LeavesShown list_loan loan (IsLayerMarked window q) was is t u
  leaves_marked list_loan window named u leaves was is slots whole =
      let left = leaves slots whole in
      (left.0, subst (λ s. IsLayerMarked s q (state_showing was (state_of loan t slots)) (state_showing is (state_of loan u slots))) named (is_marked slots whole is was u left.1))

-- ---- a part that was shown anew, where controls and lists show together what that showed by itself

module _ {V : Type 0} {H : V → Type 0} (loan : TakenBox V H → WindowLoan) where
  pub leaves_redrawn : {X : Type 0} {L : X → Type 0} (list_loan : TakenBox X L → ListLoan) (t u : WindowManager V H) (s : ℕ) (q : Part) (within : Rect) (f was is : List ℕ → Part → PixelSet) → LeavesShown list_loan loan (IsPartDrawnWithin within s q) was f t u
      → ((p : Point) → is t.font q p ≡ f t.font q p) → LeavesShown list_loan loan (IsPartDrawnWithin within s q) was is t u
  leaves_redrawn list_loan t u s q within f was is leaves same slots whole =
      let left = leaves slots whole in
      let fonts : u.font ≡ t.font = ap (λ (d : FullDesk). d.font) left.1.desk in
      let shown : (p : Point) → is u.font q p ≡ f u.font q p = λ p. subst (λ font. is font q p ≡ f font q p) (sym fonts) (same p) in (
        left.0,
        record {
          desk = ap (λ (d : FullDesk). record d { shows = is u.font }) left.1.desk;
          redrawn = λ right outside. redrawn_reshown f is (state_of loan u slots) left.0.sound.distinct s q (state_showing was (state_of loan t slots))
              (λ p. sym (shown p)) (left.1.redrawn right (λ p out. sym (shown p) ∙ outside p out));
        },
      )
