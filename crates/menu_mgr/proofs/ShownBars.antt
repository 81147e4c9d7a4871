-- A window manager whose menu bar was shown anew, or has the titles already.
use Rattle.std.proofs.Common.{◌≡◌, ◌&&◌, Bool, true, false, if◌then◌else◌, List, pos, refl, sym, ap, ◌∙◌, subst}
use Rattle.std.specs.Prelude.{int_lt}
use Rattle.tb_geom.specs.declared.point.Point.{Point}
use Rattle.bit_map.specs.Bits.{bit, on_map}
use Rattle.bit_blit.specs.Draws.{Draws}
use Rattle.def_iface.specs.Slots.{TakenBox}
use Rattle.def_iface.specs.WindowMeaning.{WindowLoan}
use Rattle.def_iface.specs.WindowSlots.{WindowSlot}
use Rattle.desk_layers.specs.Desk.{on_screen}
use Rattle.desk_layers.specs.Owner.{owner_among, own_bit, is_content}
use Rattle.desk_layers.specs.Owner.Owner.{Bar}
use Rattle.desk_ground.specs.Bars.{bar_picture}
use Rattle.desk_ground.specs.declared.titles.BarTitle.{BarTitle}
use Rattle.window_mgr.specs.declared.manager.WindowManager.{WindowManager}
use Rattle.window_mgr.specs.BarShown.{IsBarShown}
use Rattle.window_mgr.specs.FullDesk.{FullDesk, layered_desk}
use Rattle.window_mgr.specs.Records.{desk_of, state_of}
use Rattle.window_mgr.specs.Updating.{LeavesState}
use Rattle.window_mgr.specs.Whole.{IsWholeManager}
use Rattle.window_mgr.proofs.Arranged.{between-is_below}
use Rattle.window_mgr.proofs.BarTitles.{titles_shown}

-- the screen is as wide and high as it was
pub record IsAsLarge {V : Type 0} {H : V → Type 0} (t u : WindowManager V H) : Type 0 where
  pub width : u.screen.width ≡ t.screen.width
  pub height : u.screen.height ≡ t.screen.height

module _ {V : Type 0} {H : V → Type 0} (loan : TakenBox V H → WindowLoan) (t u : WindowManager V H) where
  pub as_large : (slots : List WindowSlot) (titles : List BarTitle) → IsBarShown titles (state_of loan t slots) (state_of loan u slots) → IsAsLarge t u
  as_large slots titles bar =
      let w : pos u.screen.width ≡ pos t.screen.width = ap (λ (d : FullDesk). d.width) bar.desk in
      let h : pos u.screen.height ≡ pos t.screen.height = ap (λ (d : FullDesk). d.height) bar.desk in
      record { width = cc; height = cc }

  -- equal titles show as well
  pub same_titles : (ts us : List BarTitle) → ts ≡ us → LeavesState loan (IsBarShown ts) t u → LeavesState loan (IsBarShown us) t u
  same_titles ts us same shown slots whole =
      let done = shown slots whole in (done.0, subst (λ x. IsBarShown x (state_of loan t slots) (state_of loan u slots)) same done.1)

module _ {V : Type 0} {H : V → Type 0} (loan : TakenBox V H → WindowLoan) (t : WindowManager V H) where
  on_screen_is : (slots : List WindowSlot) (p : Point) → on_screen (layered_desk (desk_of loan t slots)) p ≡ on_map t.screen p
  unfolding on_map
  on_screen_is slots p = λ i. between-is_below t.screen.width p.h i && between-is_below t.screen.height p.v i

  -- the menu bar shows its own titles between calls: to draw it once more changes no pixel
  drawn_again : (slots : List WindowSlot) → IsWholeManager loan t slots → Draws (λ p. int_lt p.v t.bar.rows) (λ p _. bar_picture t.font t.bar.titles p) t.screen t.screen
  drawn_again slots whole = record { width = refl; height = refl; pixels = λ p on. by_bar p on (int_lt p.v t.bar.rows) refl }
    where
      by_bar : (p : Point) → on_map t.screen p ≡ true → (b : Bool) → int_lt p.v t.bar.rows ≡ b
          → bit t.screen p ≡ (if int_lt p.v t.bar.rows then bar_picture t.font t.bar.titles p else bit t.screen p)
      by_bar p on true e =
          let desk = layered_desk (desk_of loan t slots) in
          let there : on_screen desk p ≡ true = on_screen_is slots p ∙ on in
          whole.frames p there (ap (λ b. is_content (if b then Bar else owner_among desk.windows p)) e)
          ∙ ap (λ b. own_bit desk (if b then Bar else owner_among desk.windows p) p) e
          ∙ sym (ap (λ b. if b then bar_picture t.font t.bar.titles p else bit t.screen p) e)
      by_bar p on false e = sym (ap (λ b. if b then bar_picture t.font t.bar.titles p else bit t.screen p) e)

  -- so nothing is left to be done where these are its titles already
  pub still_shown : (ts : List BarTitle) → t.bar.titles ≡ ts → LeavesState loan (IsBarShown ts) t t
  still_shown ts same slots whole =
      (whole, subst (λ x. IsBarShown x (state_of loan t slots) (state_of loan t slots)) same (titles_shown loan t slots whole t.bar.titles t.screen (drawn_again slots whole)))
