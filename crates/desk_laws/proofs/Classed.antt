-- Calls on windows leave those that float in front of the others.
use Rattle.std.proofs.Common.{◌≡◌, ℕ, zero, suc, ◌+◌, ◌==◌, Bool, true, false, if◌then◌else◌, List, [], ◌∷◌, ◌++◌, length, map, Option, None, Some, refl, sym, ap, ◌∙◌, subst, arith}
use Rattle.std.specs.Prelude.{All}
use Rattle.std.specs.List.{insert, prefix_len}
use Rattle.std.proofs.lemmas.List.Elements.{All-nil, All-cons, All-head, All-tail}
use Rattle.window_list.specs.Classes.{back_place, front_place, put_back, put_front}
use Rattle.window_list.proofs.ClassLemmas.{prefix_map}
use Rattle.vis_update.specs.Records.{WindowRecord, is_floating}
use Rattle.window_mgr.specs.declared.arrange.Activation.{Activation}
use Rattle.window_mgr.specs.declared.arrange.Activation.TheVariants.{Stays, Becomes}
use Rattle.window_mgr.specs.Arrange.{activated, brought, changed, in_front, put_next, with_highlighting, without}
use Rattle.window_mgr.specs.Finding.{record_with}
use Rattle.window_mgr.proofs.DimLemmas.{either}
use Rattle.desk_toolbox.specs.Classes.{AreClassed, AreTrueFirst}

-- ---- truth values

abbrev itself : Bool → Bool
itself b = b

true_first : (bs : List Bool) → AreTrueFirst bs → AreTrueFirst (true ∷ bs)
true_first bs h = ((λ e. absurd (cc)), h)

-- behind the true ones
behind_true : (b : Bool) (bs : List Bool) → AreTrueFirst bs → AreTrueFirst (insert bs (prefix_len itself bs) b)
behind_true b [] h = ((λ e. All-nil (λ c. c ≡ false)), tt)
behind_true b (true ∷ cs) h = subst (λ n. AreTrueFirst (insert (true ∷ cs) n b)) (one_more (prefix_len itself cs)) ((λ e. absurd (cc)), behind_true b cs h.1)
  where
    one_more : (n : ℕ) → suc n ≡ 1 + n
    one_more n = omega arith
behind_true b (false ∷ cs) h = ((λ e. All-cons (λ c. c ≡ false) false cs refl (h.0 refl)), h)

all_false_end : (bs : List Bool) → All (λ c. c ≡ false) bs → All (λ c. c ≡ false) (bs ++ false ∷ [])
all_false_end [] h = All-cons (λ c. c ≡ false) false [] refl h
all_false_end (b ∷ bs) h = All-cons (λ c. c ≡ false) b (bs ++ false ∷ []) (All-head (λ c. c ≡ false) b bs h) (all_false_end bs (All-tail (λ c. c ≡ false) b bs h))

false_last : (bs : List Bool) → AreTrueFirst bs → AreTrueFirst (bs ++ false ∷ [])
false_last [] h = ((λ e. All-nil (λ c. c ≡ false)), tt)
false_last (b ∷ bs) h = ((λ e. all_false_end bs (h.0 e)), false_last bs h.1)

-- ---- one window put in

map_insert : (k : ℕ) (w : WindowRecord) (ws : List WindowRecord) → map is_floating (insert ws k w) ≡ insert (map is_floating ws) k (is_floating w)
map_insert zero w ws = refl
map_insert (suc k) w [] = refl
map_insert (suc k) w (v ∷ vs) = λ i. is_floating v ∷ map_insert k w vs i

classed_behind : (w : WindowRecord) (ws : List WindowRecord) → AreClassed ws → AreClassed (insert ws (prefix_len is_floating ws) w)
classed_behind w ws h =
    subst AreTrueFirst (sym (map_insert (prefix_len is_floating ws) w ws))
    (subst (λ n. AreTrueFirst (insert (map is_floating ws) n (is_floating w))) (prefix_map is_floating is_floating itself (λ x. refl) ws)
    (behind_true (is_floating w) (map is_floating ws) h))

classed_in_place : (b : Bool) (w : WindowRecord) (ws : List WindowRecord) → is_floating w ≡ b → AreClassed ws → AreClassed (insert ws (front_place is_floating b ws) w)
classed_in_place true w ws e h = subst (λ c. AreTrueFirst (c ∷ map is_floating ws)) (sym e) (true_first (map is_floating ws) h)
classed_in_place false w ws e h = classed_behind w ws h

pub classed_put_front : (w : WindowRecord) (ws : List WindowRecord) → AreClassed ws → AreClassed (put_front is_floating w ws)
classed_put_front w ws h = classed_in_place (is_floating w) w ws refl h

classed_at_back : (b : Bool) (w : WindowRecord) (ws : List WindowRecord) → is_floating w ≡ b → AreClassed ws → AreClassed (insert ws (back_place is_floating b ws) w)
classed_at_back true w ws e h = classed_behind w ws h
classed_at_back false w ws e h =
    subst AreTrueFirst (sym (map_insert (length ws) w ws ∙ ap (insert (map is_floating ws) (length ws)) e ∙ at_end ws))
    (false_last (map is_floating ws) h)
  where
    at_end : (vs : List WindowRecord) → insert (map is_floating vs) (length vs) false ≡ map is_floating vs ++ false ∷ []
    at_end [] = refl
    at_end (v ∷ vs) = ap (λ bs. is_floating v ∷ bs) (at_end vs)

pub classed_put_back : (w : WindowRecord) (ws : List WindowRecord) → AreClassed ws → AreClassed (put_back is_floating w ws)
classed_put_back w ws h = classed_at_back (is_floating w) w ws refl h

-- ---- one window behind another of its class

-- the window of this serial is there, and of the class of this one
abbrev pub IsBesideOf : ℕ → WindowRecord → List WindowRecord → Type 0
IsBesideOf s w ws = (v : WindowRecord) × (record_with s ws ≡ Some v) × (v.floating ≡ w.floating)

-- none of these floats, one of them is beside it, and so it does not
ordinary_beside : (s : ℕ) (w : WindowRecord) (ws : List WindowRecord) → All (λ c. c ≡ false) (map is_floating ws) → IsBesideOf s w ws → w.floating ≡ false
ordinary_beside s w [] all (v, found, same) = absurd (cc)
ordinary_beside s w (u ∷ us) all (v, found, same) =
    by_this (u.serial == s) found (λ is. ordinary_beside s w us (All-tail (λ c. c ≡ false) (is_floating u) (map is_floating us) all) (v, is, same))
  where
    by_this : (b : Bool) → (if b then Some u else record_with s us) ≡ Some v → (record_with s us ≡ Some v → w.floating ≡ false) → w.floating ≡ false
    by_this true is rest =
        let its : u ≡ v = cc in
        sym same ∙ sym (ap is_floating its) ∙ All-head (λ c. c ≡ false) (is_floating u) (map is_floating us) all
    by_this false is rest = rest is

ordinary_next : (s : ℕ) (w : WindowRecord) (ws : List WindowRecord) → w.floating ≡ false → All (λ c. c ≡ false) (map is_floating ws) → All (λ c. c ≡ false) (map is_floating (put_next s w ws))
ordinary_next s w [] its all = All-cons (λ c. c ≡ false) (is_floating w) [] its all
ordinary_next s w (u ∷ us) its all =
    by_this (u.serial == s) (ordinary_next s w us its (All-tail (λ c. c ≡ false) (is_floating u) (map is_floating us) all))
  where
    first : is_floating u ≡ false
    first = All-head (λ c. c ≡ false) (is_floating u) (map is_floating us) all

    rest : All (λ c. c ≡ false) (map is_floating us)
    rest = All-tail (λ c. c ≡ false) (is_floating u) (map is_floating us) all

    by_this : (b : Bool) → All (λ c. c ≡ false) (map is_floating (put_next s w us)) → All (λ c. c ≡ false) (map is_floating (if b then u ∷ w ∷ us else u ∷ put_next s w us))
    by_this true others = All-cons (λ c. c ≡ false) (is_floating u) (is_floating w ∷ map is_floating us) first (All-cons (λ c. c ≡ false) (is_floating w) (map is_floating us) its rest)
    by_this false others = All-cons (λ c. c ≡ false) (is_floating u) (map is_floating (put_next s w us)) first others

pub classed_next : (s : ℕ) (w : WindowRecord) (ws : List WindowRecord) → IsBesideOf s w ws → AreClassed ws → AreClassed (put_next s w ws)
classed_next s w [] (v, found, same) h = absurd (cc)
classed_next s w (u ∷ us) (v, found, same) h = by_this (u.serial == s) found (λ is. classed_next s w us (v, is, same) h.1)
  where
    by_this : (b : Bool) → (if b then Some u else record_with s us) ≡ Some v → (record_with s us ≡ Some v → AreClassed (put_next s w us)) → AreClassed (if b then u ∷ w ∷ us else u ∷ put_next s w us)
    by_this true is rest =
        let its : u ≡ v = cc in
        let alike : u.floating ≡ w.floating = ap is_floating its ∙ same in
        ((λ e. All-cons (λ c. c ≡ false) (is_floating w) (map is_floating us) (sym alike ∙ e) (h.0 e)), ((λ e. h.0 (alike ∙ e)), h.1))
    by_this false is rest = ((λ e. ordinary_next s w us (ordinary_beside s w us (h.0 e) (v, is, same)) (h.0 e)), rest is)

-- ---- windows taken out, or changed

ordinary_without : (s : ℕ) (ws : List WindowRecord) → All (λ c. c ≡ false) (map is_floating ws) → All (λ c. c ≡ false) (map is_floating (without s ws))
ordinary_without s [] all = all
ordinary_without s (v ∷ vs) all =
    by_this (v.serial == s) (ordinary_without s vs (All-tail (λ c. c ≡ false) (is_floating v) (map is_floating vs) all))
  where
    by_this : (b : Bool) → All (λ c. c ≡ false) (map is_floating (without s vs)) → All (λ c. c ≡ false) (map is_floating (if b then vs else v ∷ without s vs))
    by_this true rest = All-tail (λ c. c ≡ false) (is_floating v) (map is_floating vs) all
    by_this false rest = All-cons (λ c. c ≡ false) (is_floating v) (map is_floating (without s vs)) (All-head (λ c. c ≡ false) (is_floating v) (map is_floating vs) all) rest

pub classed_without : (s : ℕ) (ws : List WindowRecord) → AreClassed ws → AreClassed (without s ws)
classed_without s [] h = h
classed_without s (w ∷ ws) h = by_this (w.serial == s) (classed_without s ws h.1)
  where
    by_this : (b : Bool) → AreClassed (without s ws) → AreClassed (if b then ws else w ∷ without s ws)
    by_this true rest = h.1
    by_this false rest = ((λ e. ordinary_without s ws (h.0 e)), rest)

-- the windows float as before
pub classed_alike : (ws vs : List WindowRecord) → map is_floating vs ≡ map is_floating ws → AreClassed ws → AreClassed vs
classed_alike ws vs same h = subst AreTrueFirst (sym same) h

pub floating_mapped : (f : WindowRecord → WindowRecord) → ((w : WindowRecord) → (f w).floating ≡ w.floating) → (ws : List WindowRecord) → map is_floating (map f ws) ≡ map is_floating ws
floating_mapped f same [] = refl
floating_mapped f same (w ∷ ws) = λ i. same w i ∷ floating_mapped f same ws i

pub floating_changed : (s : ℕ) (f : WindowRecord → WindowRecord) → ((w : WindowRecord) → (f w).floating ≡ w.floating) → (ws : List WindowRecord) → map is_floating (changed s f ws) ≡ map is_floating ws
floating_changed s f same [] = refl
floating_changed s f same (w ∷ ws) = by_this (w.serial == s) (floating_changed s f same ws)
  where
    by_this : (b : Bool) → map is_floating (changed s f ws) ≡ map is_floating ws → map is_floating (if b then f w ∷ ws else w ∷ changed s f ws) ≡ is_floating w ∷ map is_floating ws
    by_this true rest = λ i. same w i ∷ map is_floating ws
    by_this false rest = λ i. is_floating w ∷ rest i

pub floating_lit : (on : Bool) (s : Option ℕ) (w : WindowRecord) → (with_highlighting on s w).floating ≡ w.floating
floating_lit on s w = either on s (λ v. v.floating ≡ w.floating) w refl refl

pub floating_activated : (a : Activation) (former : Option ℕ) (ws : List WindowRecord) → map is_floating (activated a former ws) ≡ map is_floating ws
floating_activated Stays former ws = refl
floating_activated (Becomes s) former ws =
    floating_mapped (λ w. with_highlighting true s (with_highlighting false former w)) (λ w. floating_lit true s (with_highlighting false former w) ∙ floating_lit false former w) ws

-- ---- brought to the front, or sent behind

classed_in_front : (o : Option WindowRecord) (ws : List WindowRecord) → AreClassed ws → AreClassed (in_front o ws)
classed_in_front None ws h = h
classed_in_front (Some w) ws h = classed_put_front w ws h

pub classed_brought : (s : ℕ) (ws : List WindowRecord) → AreClassed ws → AreClassed (brought s ws)
classed_brought s ws h = classed_in_front (record_with s ws) (without s ws) (classed_without s ws h)
