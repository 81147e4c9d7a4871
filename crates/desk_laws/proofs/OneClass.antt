-- Windows of which none floats: two classes are one.
use Rattle.std.proofs.Common.{◌≡◌, ◌+◌, Bool, true, false, not, ◌&&◌, cond, if◌then◌else◌, List, [], ◌∷◌, ◌++◌, Some, refl, ap, ◌∙◌}
use Rattle.std.specs.List.{find, insert, prefix_len}
use Rattle.std.specs.Option.{option_map}
use Rattle.std.proofs.lemmas.List.Edits.{insert_end}
use Rattle.std.proofs.lemmas.List.Elements.{All-head, All-tail}
use Rattle.vis_update.specs.Records.{WindowRecord, is_floating}
use Rattle.window_list.specs.Classes.{back_place, front_place, put_back, put_front}
use Rattle.window_mgr.specs.Finding.{front_of}
use Rattle.desk_laws.specs.OneClass.{AreOrdinary}

-- none of them stands in front of the ordinary ones
none_in_front : (ws : List WindowRecord) → AreOrdinary ws → prefix_len is_floating ws ≡ 0
none_in_front [] all = refl
none_in_front (w ∷ ws) all = ap (λ b. cond b (1 + prefix_len is_floating ws) 0) (All-head (λ (v : WindowRecord). v.floating ≡ false) w ws all)

pub front_is_all : (w : WindowRecord) (ws : List WindowRecord) → AreOrdinary (w ∷ ws) → put_front is_floating w ws ≡ w ∷ ws
front_is_all w ws all = ap (λ b. insert ws (front_place is_floating b ws) w) (All-head (λ (v : WindowRecord). v.floating ≡ false) w ws all) ∙ ap (λ n. insert ws n w) (none_in_front ws (All-tail (λ (v : WindowRecord). v.floating ≡ false) w ws all))

pub back_is_all : (w : WindowRecord) (ws : List WindowRecord) → AreOrdinary (w ∷ ws) → put_back is_floating w ws ≡ ws ++ w ∷ []
back_is_all w ws all = ap (λ b. insert ws (back_place is_floating b ws) w) (All-head (λ (v : WindowRecord). v.floating ≡ false) w ws all) ∙ insert_end ws w

pub first_shown : (ws : List WindowRecord) → AreOrdinary ws → front_of ws ≡ option_map (λ w. w.serial) (find (λ w. w.shown) ws)
first_shown [] all = refl
first_shown (w ∷ ws) all =
    ap (λ b. if w.shown && not b then Some w.serial else front_of ws) (All-head (λ (v : WindowRecord). v.floating ≡ false) w ws all) ∙ by_test w.shown (first_shown ws (All-tail (λ (v : WindowRecord). v.floating ≡ false) w ws all))
  where
    by_test : (b : Bool) → front_of ws ≡ option_map (λ w. w.serial) (find (λ w. w.shown) ws)
        → (if b && true then Some w.serial else front_of ws) ≡ option_map (λ w. w.serial) (if b then Some w else find (λ w. w.shown) ws)
    by_test true rest = refl
    by_test false rest = rest
