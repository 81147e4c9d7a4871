-- Definitions that are told how their windows stand, window by window.
use Rattle.std.proofs.Common.{◌≡◌, inl, inr, ℕ, zero, suc, ◌<◌, ◌+◌, ◌==◌, Bool, true, false, not, if◌then◌else◌, List, [], ◌∷◌, ◌++◌, length, get_or, map, Some, refl, sym, ap, ◌∙◌, subst, arith}
use Rattle.std.specs.Prelude.{slice_get}
use Rattle.std.proofs.Math.Bool.{beq}
use Rattle.std.proofs.lemmas.Bool.{eqb-true}
use Rattle.std.proofs.lemmas.Bool.Decides.{nat_tests}
use Rattle.std.proofs.lemmas.List.{length-map}
use Rattle.def_iface.specs.Slots.{TakenBox}
use Rattle.def_iface.specs.WindowMeaning.{WindowDefinition, WindowLoan}
use Rattle.desk_layers.specs.Desk as layers
use Rattle.desk_layers.proofs.Owning.{same_number}
use Rattle.vis_update.specs.Records.{WindowRecord, Look, layered_window, record_of}
use Rattle.window_list.specs.declared.window.Window.{Window}
use Rattle.window_mgr.specs.declared.manager.WindowManager.{WindowManager}
use Rattle.window_mgr.specs.Arrange.{changed}
use Rattle.window_mgr.specs.Edits.{IsWindowAt}
use Rattle.window_mgr.specs.Finding.{record_with}
use Rattle.window_mgr.specs.FullDesk.{FullState}
use Rattle.window_mgr.specs.Kept.{IsKept}
use Rattle.window_mgr.specs.Records.{look_on, state_of}
use Rattle.window_mgr.specs.Updating.{LeavesState}
use Rattle.window_mgr.proofs.EditSeats.{there_is}
use Rattle.window_mgr.proofs.FindLemmas.{not_among, record_at}
use Rattle.window_mgr.specs.Sparing.{Repaints}
use Rattle.window_frame.proofs.Repainting.{informed_knows, knows_draws_none, not_behind, repainted_none, repainted_then}
use Rattle.window_frame.specs.Followers.{Flag, draws_told, is_behind, Telling, Knows, AreNotified, IsCaughtUp, IsInformed, IsNotified, with_heard}
use Rattle.window_frame.specs.Followers.Flag.{Highlighting, Zooming}
use Rattle.window_frame.proofs.FrameSteps.{still_kept}

-- ---- what a test says

pub differ : (a b : Bool) → not (beq a b) ≡ true → a ≡ b → ⊥
differ true true e same = absurd (cc)
differ true false e same = absurd (cc)
differ false true e same = absurd (cc)
differ false false e same = absurd (cc)

pub agree : (a b : Bool) → not (beq a b) ≡ false → a ≡ b
agree true true e = refl
agree true false e = absurd (cc)
agree false true e = absurd (cc)
agree false false e = refl

-- ---- a list of which one window is changed

changed_length : (s : ℕ) (f : WindowRecord → WindowRecord) (ws : List WindowRecord) → length (changed s f ws) ≡ length ws
changed_length s f [] = refl
changed_length s f (w ∷ ws) = by_test (w.serial == s) (changed_length s f ws)
  where
    by_test : (b : Bool) → length (changed s f ws) ≡ length ws → length (if b then f w ∷ ws else w ∷ changed s f ws) ≡ suc (length ws)
    by_test true rest = refl
    by_test false rest = ap suc rest

-- what holds of each before, and of each that is changed, holds of each afterwards
changed_each : (P : WindowRecord → Type 0) (s : ℕ) (f : WindowRecord → WindowRecord) → ((w : WindowRecord) → P w → P (f w)) → (ws : List WindowRecord) (i : ℕ) (d : WindowRecord) → P (get_or ws i d) → P (get_or (changed s f ws) i d)
changed_each P s f keeps [] i d its = its
changed_each P s f keeps (w ∷ ws) i d its = by_test (w.serial == s) i its (λ j. changed_each P s f keeps ws j d)
  where
    by_test : (b : Bool) (j : ℕ) → P (get_or (w ∷ ws) j d) → ((k : ℕ) → P (get_or ws k d) → P (get_or (changed s f ws) k d)) → P (get_or (if b then f w ∷ ws else w ∷ changed s f ws) j d)
    by_test true zero its rest = keeps w its
    by_test true (suc j) its rest = its
    by_test false zero its rest = its
    by_test false (suc j) its rest = rest j its

-- what stands at a place is read there
got : (ws : List WindowRecord) (i : ℕ) (w d : WindowRecord) → slice_get ws i ≡ Some w → get_or ws i d ≡ w
got [] i w d e = absurd (cc)
got (y ∷ ys) zero w d e = cc
got (y ∷ ys) (suc i) w d e = got ys i w d e

-- the one of the number at a place is changed there
changed_at : (look : Look) (f : WindowRecord → WindowRecord) (ws : List WindowRecord) (i : ℕ) (w d : WindowRecord) → layers.AreWindows (map (layered_window look) ws) → slice_get ws i ≡ Some w → get_or (changed w.serial f ws) i d ≡ f w
changed_at look f [] i w d distinct e = absurd (cc)
changed_at look f (y ∷ ys) zero w d distinct e =
    let same : y ≡ w = cc in
    rw (ap (λ (x : WindowRecord). x.serial == w.serial) same ∙ same_number w.serial) (ap f same)
changed_at look f (y ∷ ys) (suc i) w d distinct e = rw (not_among look y.serial ys i w distinct.0 e) (changed_at look f ys i w d distinct.1.1 e)

-- ---- what a definition that was told knows

-- it knows what it was told
knows_told : (flag : Flag) (w : WindowRecord) (d : WindowDefinition) → Knows flag (record (with_heard flag w) { definition = d })
knows_told Highlighting w d = refl
knows_told Zooming w d = refl

-- and all that it knew
knows_still : (told flag : Flag) (w : WindowRecord) (d : WindowDefinition) → Knows flag w → Knows flag (record (with_heard told w) { definition = d })
knows_still Highlighting Highlighting w d knew = refl
knows_still Highlighting Zooming w d knew = knew
knows_still Zooming Highlighting w d knew = knew
knows_still Zooming Zooming w d knew = refl

-- ---- a window manager of which one definition was told

several_then : (ts : List Telling) (t : Telling) (before middle after : FullState) → AreNotified ts before middle → IsNotified t middle after → AreNotified (ts ++ t ∷ []) before after
several_then [] t before middle after same told = (after, subst (λ m. IsNotified t m after) same told, refl)
several_then (one ∷ ts) t before middle after (first, its, rest) told = (first, its, several_then ts t first middle after rest told)

-- several were told
abbrev pub AreSomeTold : FullState → FullState → Type 0
AreSomeTold before after = (ts : List Telling) × AreNotified ts before after

and_one : (flag : Flag) (s : ℕ) (before middle after : FullState) → AreSomeTold before middle → IsInformed flag s middle after → AreSomeTold before after
and_one flag s before middle after (ts, told) (inl (known, same)) = (ts, subst (λ m. AreNotified ts before m) (sym same) told)
and_one flag s before middle after (ts, told) (inr one) = (ts ++ record { window = s; flag = flag } ∷ [], several_then ts (record { window = s; flag = flag }) before middle after told one)

module _ {V : Type 0} {H : V → Type 0} (loan : TakenBox V H → WindowLoan) where
  abbrev records : WindowManager V H → List WindowRecord
  records t = map (record_of loan) t.windows.records.items

  module _ (flag : Flag) (t new : WindowManager V H) (kept : IsKept loan t) (at : ℕ) (low : at < length t.windows.records.items) (x : Window V H) (there : IsWindowAt t.windows.records.items at x) (leaves : LeavesState loan (IsInformed flag x.serial) t new) where
    informed : IsInformed flag x.serial (state_of loan t kept.slots) (state_of loan new kept.slots)
    informed = (leaves kept.slots kept.whole).1

    in_place : slice_get (records t) at ≡ Some (record_of loan x)
    in_place = place_of t.windows.records.items at x low there
      where
        place_of : (ws : List (Window V H)) (i : ℕ) (w : Window V H) → i < length ws → IsWindowAt ws i w → slice_get (map (record_of loan) ws) i ≡ Some (record_of loan w)
        place_of [] i w low there = absurd (omega arith)
        place_of (y ∷ ys) zero w low there = ap (λ z. Some (record_of loan z)) (sym there)
        place_of (y ∷ ys) (suc i) w low there = place_of ys i w (omega arith) there

    -- there are as many windows
    pub as_many : length new.windows.records.items ≡ length t.windows.records.items
    as_many = sym (length-map new.windows.records.items (record_of loan)) ∙ by_telling informed ∙ length-map t.windows.records.items (record_of loan)
      where
        by_telling : IsInformed flag x.serial (state_of loan t kept.slots) (state_of loan new kept.slots) → length (records new) ≡ length (records t)
        by_telling (inl (known, same)) = ap (λ (s : FullState). length s.desk.windows) same
        by_telling (inr one) = ap (λ d. length d.windows) one.told.desk ∙ changed_length x.serial (λ w. record (with_heard flag w) { definition = one.told.definition }) (records t)

    -- what was known of each is still known
    pub still_known : (g : Flag) (j : ℕ) (d : WindowRecord) → Knows g (get_or (records t) j d) → Knows g (get_or (records new) j d)
    still_known g j d knew = by_telling informed
      where
        by_telling : IsInformed flag x.serial (state_of loan t kept.slots) (state_of loan new kept.slots) → Knows g (get_or (records new) j d)
        by_telling (inl (known, same)) = subst (λ (s : FullState). Knows g (get_or s.desk.windows j d)) (sym same) knew
        by_telling (inr one) = subst (λ ws. Knows g (get_or ws j d)) (sym (ap (λ d. d.windows) one.told.desk))
            (changed_each (Knows g) x.serial (λ w. record (with_heard flag w) { definition = one.told.definition }) (λ w knows. knows_still flag g w one.told.definition knows) (records t) j d knew)

    -- each has its serial still
    pub same_serials : (j : ℕ) (d : WindowRecord) → (get_or (records new) j d).serial ≡ (get_or (records t) j d).serial
    same_serials j d = by_telling informed
      where
        kept_serial : (g : Flag) (w : WindowRecord) → (with_heard g w).serial ≡ w.serial
        kept_serial Highlighting w = refl
        kept_serial Zooming w = refl

        by_telling : IsInformed flag x.serial (state_of loan t kept.slots) (state_of loan new kept.slots) → (get_or (records new) j d).serial ≡ (get_or (records t) j d).serial
        by_telling (inl (known, same)) = ap (λ (s : FullState). (get_or s.desk.windows j d).serial) same
        by_telling (inr one) = subst (λ ws. (get_or ws j d).serial ≡ (get_or (records t) j d).serial) (sym (ap (λ d. d.windows) one.told.desk))
            (changed_each (λ w. w.serial ≡ (get_or (records t) j d).serial) x.serial (λ w. record (with_heard flag w) { definition = one.told.definition }) (λ w e. kept_serial flag w ∙ e) (records t) j d refl)

    found_so : record_with x.serial (records t) ≡ Some (record_of loan x)
    found_so = record_at (look_on t) (records t) at (record_of loan x) kept.whole.sound.distinct in_place

    -- and it is known here
    pub known_here : (d : WindowRecord) → Knows flag (get_or (records new) at d)
    known_here d = by_telling informed
      where
        by_telling : IsInformed flag x.serial (state_of loan t kept.slots) (state_of loan new kept.slots) → Knows flag (get_or (records new) at d)
        by_telling (inl (known, same)) =
            subst (λ (s : FullState). Knows flag (get_or s.desk.windows at d)) (sym same)
            (subst (Knows flag) (sym (got (records t) at (record_of loan x) d in_place)) (known (record_of loan x) found_so))
        by_telling (inr one) =
            let f : WindowRecord → WindowRecord = λ w. record (with_heard flag w) { definition = one.told.definition } in
            subst (λ ws. Knows flag (get_or ws at d)) (sym (ap (λ d. d.windows) one.told.desk))
            (subst (Knows flag) (sym (changed_at (look_on t) f (records t) at (record_of loan x) d kept.whole.sound.distinct in_place)) (knows_told flag (record_of loan x) one.told.definition))

  -- ---- all windows, one after another

  -- the definitions of the windows in front of this place were told, those that had heard otherwise
  pub record IsUnderWay (at : ℕ) (t new : WindowManager V H) : Type 0 where
    pub kept : IsKept loan new
    pub many : length new.windows.records.items ≡ length t.windows.records.items
    pub leaves : LeavesState loan AreSomeTold t new
    pub informed : (j : ℕ) (d : WindowRecord) → j < at → Knows Highlighting (get_or (records new) j d) × Knows Zooming (get_or (records new) j d)
    pub serials : (j : ℕ) (d : WindowRecord) → (get_or (records new) j d).serial ≡ (get_or (records t) j d).serial
    pub knew : (g : Flag) (j : ℕ) (d : WindowRecord) → Knows g (get_or (records t) j d) → Knows g (get_or (records new) j d)
    pub repainted : Repaints loan (is_behind (records t)) t new

  pub begins : (t : WindowManager V H) → IsKept loan t → IsUnderWay 0 t t
  begins t kept = record {
    kept = kept;
    many = refl;
    leaves = λ slots whole. (whole, ([], refl));
    informed = λ j d low. absurd (omega arith);
    serials = λ j d. refl;
    knew = λ g j d its. its;
    repainted = repainted_none _ _ t.screen;
  }

  then_one : (flag : Flag) (s : ℕ) (t middle new : WindowManager V H) → LeavesState loan AreSomeTold t middle → LeavesState loan (IsInformed flag s) middle new → LeavesState loan AreSomeTold t new
  then_one flag s t middle new some one slots whole =
      let first = some slots whole in
      let last = one slots first.0 in
      (last.0, and_one flag s (state_of loan t slots) (state_of loan middle slots) (state_of loan new slots) first.1 last.1)

  module _ (at : ℕ) (t old middle new : WindowManager V H) (x y : Window V H) (so_far : IsUnderWay at t old) (low : at < length t.windows.records.items)
      (x_is : IsWindowAt old.windows.records.items at x) (first : LeavesState loan (IsInformed Highlighting x.serial) old middle) (drawn : Repaints loan (draws_told Highlighting (record_of loan x)) old middle)
      (y_is : IsWindowAt middle.windows.records.items at y) (second : LeavesState loan (IsInformed Zooming y.serial) middle new) (drawn_too : Repaints loan (draws_told Zooming (record_of loan y)) middle new) where
    low_before : at < length old.windows.records.items
    low_before = let many = so_far.many in omega arith

    many_then : length middle.windows.records.items ≡ length old.windows.records.items
    many_then = as_many Highlighting old middle so_far.kept at low_before x x_is first

    low_then : at < length middle.windows.records.items
    low_then = let many = many_then in let before = low_before in omega arith

    kept_then : IsKept loan middle
    kept_then = still_kept loan old middle (IsInformed Highlighting x.serial) so_far.kept first

    still : (g : Flag) (j : ℕ) (d : WindowRecord) → Knows g (get_or (records middle) j d) → Knows g (get_or (records new) j d)
    still = still_known Zooming middle new kept_then at low_then y y_is second

    both_here : (d : WindowRecord) → Knows Highlighting (get_or (records new) at d) × Knows Zooming (get_or (records new) at d)
    both_here d = (still Highlighting at d (known_here Highlighting old middle so_far.kept at low_before x x_is first d), known_here Zooming middle new kept_then at low_then y y_is second d)

    both_before : (j : ℕ) (d : WindowRecord) → j < at → Knows Highlighting (get_or (records new) j d) × Knows Zooming (get_or (records new) j d)
    both_before j d below =
        let was = so_far.informed j d below in (
          still Highlighting j d (still_known Highlighting old middle so_far.kept at low_before x x_is first Highlighting j d was.0),
          still Zooming j d (still_known Highlighting old middle so_far.kept at low_before x x_is first Zooming j d was.1),
        )

    by_place : (j : ℕ) (d : WindowRecord) → j < at + 1 → (b : Bool) → (j == at) ≡ b → Knows Highlighting (get_or (records new) j d) × Knows Zooming (get_or (records new) j d)
    by_place j d below true e = subst (λ k. Knows Highlighting (get_or (records new) k d) × Knows Zooming (get_or (records new) k d)) (sym (eqb-true j at e)) (both_here d)
    by_place j d below false e = both_before j d (grind (arith, nat_tests))

    serials_then : (j : ℕ) (d : WindowRecord) → (get_or (records middle) j d).serial ≡ (get_or (records t) j d).serial
    serials_then j d = same_serials Highlighting old middle so_far.kept at low_before x x_is first j d ∙ so_far.serials j d

    knew_then : (g : Flag) (j : ℕ) (d : WindowRecord) → Knows g (get_or (records t) j d) → Knows g (get_or (records middle) j d)
    knew_then g j d its = still_known Highlighting old middle so_far.kept at low_before x x_is first g j d (so_far.knew g j d its)

    -- nothing is drawn of a window that was not behind
    draws_none : (flag : Flag) (here : WindowManager V H) (z : Window V H) → at < length here.windows.records.items → IsWindowAt here.windows.records.items at z
        → ((j : ℕ) (d : WindowRecord) → (get_or (records here) j d).serial ≡ (get_or (records t) j d).serial)
        → ((g : Flag) (j : ℕ) (d : WindowRecord) → Knows g (get_or (records t) j d) → Knows g (get_or (records here) j d))
        → (n : ℕ) → is_behind (records t) n ≡ false → draws_told flag (record_of loan z) n ≡ false
    draws_none flag here z within z_is serials knew n quiet =
        let v = record_of loan z in
        let read : get_or (records here) at v ≡ v = record_at_place here.windows.records.items at z within z_is in
        let long : length (records t) ≡ length t.windows.records.items = length-map t.windows.records.items (record_of loan) in
        knows_draws_none flag v n (λ same.
        let its : (get_or (records t) at v).serial ≡ n = sym (serials at v) ∙ ap (λ (w : WindowRecord). w.serial) read ∙ sym same in
        subst (Knows flag) read (knew flag at v (informed_knows flag (get_or (records t) at v) (not_behind (records t) at v (omega (arith, long, low)) (ap (is_behind (records t)) its ∙ quiet)))))
      where
        record_at_place : (ws : List (Window V H)) (i : ℕ) (w : Window V H) → i < length ws → IsWindowAt ws i w → get_or (map (record_of loan) ws) i (record_of loan w) ≡ record_of loan w
        record_at_place [] i w l e = refl
        record_at_place (y ∷ ys) zero w l e = ap (record_of loan) (sym e)
        record_at_place (y ∷ ys) (suc i) w l e = record_at_place ys i w (omega (arith, l)) e

    all_repainted : Repaints loan (is_behind (records t)) t new
    all_repainted =
        repainted_then _ _ _ _ _ _ _ _ _ (λ n quiet. (quiet, draws_none Zooming middle y low_then y_is serials_then knew_then n quiet))
        (repainted_then _ _ _ _ _ _ _ _ _ (λ n quiet. (quiet, draws_none Highlighting old x low_before x_is so_far.serials so_far.knew n quiet)) so_far.repainted drawn) drawn_too

    pub goes_on : IsUnderWay (at + 1) t new
    goes_on = record {
      serials = λ j d. same_serials Zooming middle new kept_then at low_then y y_is second j d ∙ serials_then j d;
      knew = λ g j d its. still_known Zooming middle new kept_then at low_then y y_is second g j d (knew_then g j d its);
      repainted = all_repainted;
      kept = still_kept loan middle new (IsInformed Zooming y.serial) kept_then second;
      many = as_many Zooming middle new kept_then at low_then y y_is second ∙ many_then ∙ so_far.many;
      leaves = then_one Zooming y.serial t middle new (then_one Highlighting x.serial t old middle so_far.leaves first) second;
      informed = λ j d below. by_place j d below (j == at) refl;
    }

  -- ---- the same, of whichever window stands at the place

  -- its definition was told whether it is highlighted, where it had heard otherwise
  module _ (at : ℕ) (t old middle : WindowManager V H) (so_far : IsUnderWay at t old) (low : at < length t.windows.records.items)
      (first : (w : Window V H) → IsWindowAt old.windows.records.items at w → LeavesState loan (IsInformed Highlighting w.serial) old middle) where
    low_now : at < length old.windows.records.items
    low_now = let many = so_far.many in omega arith

    here : (x : Window V H) × IsWindowAt old.windows.records.items at x
    here = there_is old.windows.records.items at low_now

    pub middle_kept : IsKept loan middle
    middle_kept = still_kept loan old middle (IsInformed Highlighting here.0.serial) so_far.kept (first here.0 here.1)

    pub middle_low : at < length middle.windows.records.items
    middle_low = let many = as_many Highlighting old middle so_far.kept at low_now here.0 here.1 (first here.0 here.1) in let was = low_now in omega arith

    -- and then whether it is zoomed
    pub both_told : ((w : Window V H) → IsWindowAt old.windows.records.items at w → Repaints loan (draws_told Highlighting (record_of loan w)) old middle)
        → (new : WindowManager V H) → ((w : Window V H) → IsWindowAt middle.windows.records.items at w → LeavesState loan (IsInformed Zooming w.serial) middle new)
        → ((w : Window V H) → IsWindowAt middle.windows.records.items at w → Repaints loan (draws_told Zooming (record_of loan w)) middle new) → IsUnderWay (at + 1) t new
    both_told drawn new second drawn_too =
        let there = there_is middle.windows.records.items at middle_low in
        goes_on at t old middle new here.0 there.0 so_far low here.1 (first here.0 here.1) (drawn here.0 here.1) there.1 (second there.0 there.1) (drawn_too there.0 there.1)

  pub ends : (t new : WindowManager V H) (at : ℕ) → at ≡ length t.windows.records.items → IsUnderWay at t new → LeavesState loan IsCaughtUp t new
  ends t new at all so_far slots whole =
      let left = so_far.leaves slots whole in
      let long : length (records new) ≡ length new.windows.records.items = length-map new.windows.records.items (record_of loan) in
      let many = so_far.many in
      (left.0, (left.1.0, left.1.1, λ k d low. so_far.informed k d (omega arith)))
