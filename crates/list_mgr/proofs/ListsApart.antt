-- Windows and their layers are told apart where the lists of each are, and the layers beside those as they were.
use Rattle.std.proofs.Common.{◌≡◌, ℕ, Bool, true, false, not, ◌==◌, cond, if◌then◌else◌, List, [], ◌∷◌, map, Option, None, Some, refl, sym, ap, ◌∙◌, eqb-true}
use Rattle.std.specs.Prelude.{is_none}
use Rattle.std.specs.List.{AllZip, list_any}
use Rattle.std.proofs.lemmas.Bool.{false≢true}
use Rattle.std.proofs.lemmas.List.Elements.{All-head, All-tail}
use Rattle.tb_geom.specs.Points.{PixelSet}
use Rattle.window_items.specs.Items.{has_serial, items_of}
use Rattle.desk_layers.specs.declared.part.Part.{Part}
use Rattle.desk_layers.specs.declared.part.Part.TheVariants as part
use Rattle.desk_layers.specs.Desk as layers
use Rattle.desk_layers.proofs.Owning.{not_first}
use Rattle.window_list.specs.declared.layer.Layer.{Layer}
use Rattle.desk_call.specs.declared.update.LayerKind.TheVariants.{Lists}
use Rattle.vis_update.specs.Records.{Look, WindowRecord, content_layer, layered_window}
use Rattle.vis_update.specs.Relayings.{with_layers_of}
use Rattle.window_paint.specs.Kinds.{is_of}
use Rattle.window_mgr.specs.Finding.{record_with}
use Rattle.window_mgr.specs.Refused.{is_missing}
use Rattle.window_mgr.proofs.LayerParts.{layers_with, parts_alike}
use Rattle.window_items.proofs.SerialLemmas.{apart_among, or_parts}
use Rattle.control_mgr.proofs.ControlBits.{bare, missing_alike}
use Rattle.list_mgr.specs.ListDesks.{KeptList}
use Rattle.list_mgr.specs.ListSteps.{AreListLayers, IsLayerOf, layers_of_lists}
use Rattle.list_mgr.specs.WholeLists.{AreListsApart}
use Rattle.list_mgr.proofs.ListedLayers.{beside_lists, no_list, other_part}
use Rattle.list_mgr.proofs.ListsStay.{AreListsJoined}

-- ---- the layers of one window

module _ (look : Look) (content : PixelSet) (w : WindowRecord) where
  -- a part that is none of some layers is none of those of them that lie beside lists
  none_beside : (q : Part) (ks : List Layer) → layers.layer_of q (layers_with look content ks w) ≡ None → layers.layer_of q (layers_with look content (beside_lists ks) w) ≡ None
  none_beside q [] none = none
  none_beside q (k ∷ ks) none =
      let first = not_first (layers.same_part k.part q) (content_layer look content k) (layers.layer_of q (layers_with look content ks w)) none in
      by_test (is_of Lists k.part) first.0 (none_beside q ks first.1)
    where
      by_test : (b : Bool) → layers.same_part k.part q ≡ false → layers.layer_of q (layers_with look content (beside_lists ks) w) ≡ None
          → layers.layer_of q (layers_with look content (cond (not b) (k ∷ beside_lists ks) (beside_lists ks)) w) ≡ None
      by_test true other rest = rest
      by_test false other rest = ap (λ b. cond b (Some (content_layer look content k)) (layers.layer_of q (layers_with look content (beside_lists ks) w))) other ∙ rest

  -- those are apart where all are
  parts_beside : (ks : List Layer) → layers.AreParts (layers_with look content ks w) → layers.AreParts (layers_with look content (beside_lists ks) w)
  parts_beside [] apart = apart
  parts_beside (k ∷ ks) apart = by_test (is_of Lists k.part) (none_beside k.part ks apart.0) (parts_beside ks apart.1)
    where
      by_test : (b : Bool) → layers.layer_of k.part (layers_with look content (beside_lists ks) w) ≡ None → layers.AreParts (layers_with look content (beside_lists ks) w)
          → layers.AreParts (layers_with look content (cond (not b) (k ∷ beside_lists ks) (beside_lists ks)) w)
      by_test true none rest = rest
      by_test false none rest = (none, rest)

  -- a list that none of these is has no layer among theirs
  none_list : (n : ℕ) (ls : List KeptList) (ks : List Layer) → AreListLayers ls ks → list_any (has_serial n) ls ≡ false → layers.layer_of (part.List n) (layers_with look content ks w) ≡ None
  none_list n ls [] h none = refl
  none_list n ls (k ∷ ks) h none = by_kind (is_of Lists k.part) refl ls h none (λ xs g free. none_list n xs ks g free)
    where
      by_kind : (b : Bool) → is_of Lists k.part ≡ b → (ys : List KeptList) → AllZip IsLayerOf ys (cond b (k ∷ layers_of_lists ks) (layers_of_lists ks)) → list_any (has_serial n) ys ≡ false
          → ((xs : List KeptList) → AreListLayers xs ks → list_any (has_serial n) xs ≡ false → layers.layer_of (part.List n) (layers_with look content ks w) ≡ None)
          → (if layers.same_part k.part (part.List n) then Some (content_layer look content k) else layers.layer_of (part.List n) (layers_with look content ks w)) ≡ None
      by_kind false is ys h none rest =
          ap (λ b. cond b (Some (content_layer look content k)) (layers.layer_of (part.List n) (layers_with look content ks w))) (no_list k.part n is)
          ∙ rest ys h none
      by_kind true is [] h none rest = absurd h
      by_kind true is (x ∷ xs) h none rest =
          let both = or_parts (has_serial n x) (list_any (has_serial n) xs) none in
          ap (λ b. cond b (Some (content_layer look content k)) (layers.layer_of (part.List n) (layers_with look content ks w))) (ap (λ q. layers.same_part q (part.List n)) h.0.part ∙ both.0)
          ∙ rest xs h.1 both.1

  -- a part that is no list's, and none of the layers beside lists, is none of all
  none_other : (q : Part) (ks : List Layer) → is_of Lists q ≡ false → layers.layer_of q (layers_with look content (beside_lists ks) w) ≡ None → layers.layer_of q (layers_with look content ks w) ≡ None
  none_other q [] other none = none
  none_other q (k ∷ ks) other none = by_test (is_of Lists k.part) refl none (none_other q ks other)
    where
      by_test : (b : Bool) → is_of Lists k.part ≡ b → layers.layer_of q (layers_with look content (cond (not b) (k ∷ beside_lists ks) (beside_lists ks)) w) ≡ None
          → (layers.layer_of q (layers_with look content (beside_lists ks) w) ≡ None → layers.layer_of q (layers_with look content ks w) ≡ None)
          → (if layers.same_part k.part q then Some (content_layer look content k) else layers.layer_of q (layers_with look content ks w)) ≡ None
      by_test true is none rest =
          ap (λ b. cond b (Some (content_layer look content k)) (layers.layer_of q (layers_with look content ks w))) (other_part k.part q is other) ∙ rest none
      by_test false is none rest =
          let first = not_first (layers.same_part k.part q) (content_layer look content k) (layers.layer_of q (layers_with look content (beside_lists ks) w)) none in
          ap (λ b. cond b (Some (content_layer look content k)) (layers.layer_of q (layers_with look content ks w))) first.0 ∙ rest first.1

  -- all are apart where the lists are, and the layers beside them
  parts_of : (ls : List KeptList) (ks : List Layer) → AreListLayers ls ks → AreListsApart ls → layers.AreParts (layers_with look content (beside_lists ks) w) → layers.AreParts (layers_with look content ks w)
  parts_of ls [] h apart beside = beside
  parts_of ls (k ∷ ks) h apart beside = by_kind (is_of Lists k.part) refl ls h apart beside (λ xs g away. parts_of xs ks g away)
    where
      by_kind : (b : Bool) → is_of Lists k.part ≡ b → (ys : List KeptList) → AllZip IsLayerOf ys (cond b (k ∷ layers_of_lists ks) (layers_of_lists ks)) → AreListsApart ys
          → layers.AreParts (layers_with look content (cond (not b) (k ∷ beside_lists ks) (beside_lists ks)) w)
          → ((xs : List KeptList) → AreListLayers xs ks → AreListsApart xs → layers.AreParts (layers_with look content (beside_lists ks) w) → layers.AreParts (layers_with look content ks w))
          → layers.AreParts (layers_with look content (k ∷ ks) w)
      by_kind true is [] h apart beside rest = absurd h
      by_kind true is (x ∷ xs) h apart beside rest = (
        ap (λ q. layers.layer_of q (layers_with look content ks w)) h.0.part ∙ none_list x.serial xs ks h.1 apart.0,
        rest xs h.1 apart.1 beside,
      )
      by_kind false is ys h apart beside rest = (none_other k.part ks is beside.0, rest ys h apart beside.1)

-- ---- all windows

-- a window is missing among layered ones where it is missing
none_of : (look : Look) (s : ℕ) (ws : List WindowRecord) → is_none (layers.window_of s (map (layered_window look) ws)) ≡ is_missing s ws
none_of look s [] = refl
none_of look s (w ∷ ws) = by_test (w.serial == s) (none_of look s ws)
  where
    by_test : (b : Bool) → is_none (layers.window_of s (map (layered_window look) ws)) ≡ is_missing s ws
        → is_none (cond b (Some (layered_window look w)) (layers.window_of s (map (layered_window look) ws))) ≡ is_none (cond b (Some w) (record_with s ws))
    by_test true rest = refl
    by_test false rest = rest

is_nothing : (o : Option layers.LayeredWindow) → is_none o ≡ true → o ≡ None
is_nothing None e = refl
is_nothing (Some w) e = absurd (false≢true e)

-- a window with the layers beside its lists alone
abbrev pub unlisted : WindowRecord → WindowRecord
unlisted w = record w { layers = beside_lists w.layers }

-- windows that are the same but for the layers of their lists are told apart as they were
pub distinct_windows : (look other : Look) (ls : List KeptList) (ws vs : List WindowRecord) → AreListsApart ls → map bare vs ≡ map bare ws → map unlisted vs ≡ map unlisted ws → AreListsJoined ls vs
    → layers.AreWindows (map (layered_window look) ws) → layers.AreWindows (map (layered_window other) vs)
distinct_windows look other ls ws [] apart same beside joined distinct = tt
distinct_windows look other ls [] (v ∷ vs) apart same beside joined distinct = absurd (cc)
distinct_windows look other ls (w ∷ ws) (v ∷ vs) apart same beside joined distinct =
    let first : bare v ≡ bare w = cc in
    let rest : map bare vs ≡ map bare ws = cc in
    let first_beside : unlisted v ≡ unlisted w = cc in
    let rest_beside : map unlisted vs ≡ map unlisted ws = cc in (
      is_nothing (layers.window_of v.serial (map (layered_window other) vs))
          (none_of other v.serial vs ∙ missing_alike v.serial ws vs rest ∙ sym (none_of look v.serial ws)
          ∙ ap (λ (x : WindowRecord). is_none (layers.window_of x.serial (map (layered_window look) ws))) first ∙ ap is_none distinct.0),
      (
        parts_of other (v.definition.content v.size) v (items_of v.serial ls) v.layers (All-head (λ x. AreListLayers (items_of x.serial ls) x.layers) v vs joined) (apart_among v.serial ls apart)
            (parts_alike look other (unlisted w) (unlisted v) (ap (λ (x : WindowRecord). x.layers) first_beside) (parts_beside look (w.definition.content w.size) w w.layers distinct.1.0)),
        distinct_windows look other ls ws vs apart rest rest_beside (All-tail (λ x. AreListLayers (items_of x.serial ls) x.layers) v vs joined) distinct.1.1,
      ),
    )

-- where the layers of a window come to be others, but not those beside its lists, all windows are the same but for the layers of
-- their lists
pub beside_laid : (look : Look) (s : ℕ) (ks : List Layer) (ws : List WindowRecord) → layers.AreWindows (map (layered_window look) ws)
    → ((w : WindowRecord) → record_with s ws ≡ Some w → beside_lists ks ≡ beside_lists w.layers) → map unlisted (map (with_layers_of s ks) ws) ≡ map unlisted ws
beside_laid look s ks [] distinct same = refl
beside_laid look s ks (w ∷ ws) distinct same = by_test (w.serial == s) refl same (beside_laid look s ks ws distinct.1.1)
  where
    -- no window behind it has its serial
    none_has : (w.serial == s) ≡ true → (v : WindowRecord) → record_with s ws ≡ Some v → ⊥
    none_has e v found =
        let missing : is_missing s ws ≡ true = sym (none_of look s ws)
        ∙ ap is_none (ap (λ n. layers.window_of n (map (layered_window look) ws)) (sym (eqb-true w.serial s e)) ∙ distinct.0) in
        false≢true (sym (ap is_none found) ∙ missing)

    by_test : (b : Bool) → (w.serial == s) ≡ b → ((v : WindowRecord) → cond b (Some w) (record_with s ws) ≡ Some v → beside_lists ks ≡ beside_lists v.layers)
        → (((v : WindowRecord) → record_with s ws ≡ Some v → beside_lists ks ≡ beside_lists v.layers) → map unlisted (map (with_layers_of s ks) ws) ≡ map unlisted ws)
        → unlisted (cond b (record w { layers = ks }) w) ∷ map unlisted (map (with_layers_of s ks) ws) ≡ unlisted w ∷ map unlisted ws
    by_test true e same rest =
        let rest_same = rest (λ v found. absurd (none_has e v found)) in
        λ i. record w { layers = same w refl i } ∷ rest_same i
    by_test false e same rest = ap (λ vs. unlisted w ∷ vs) (rest same)
