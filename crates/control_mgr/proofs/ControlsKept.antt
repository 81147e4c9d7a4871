-- What holds of a desk with controls between calls holds after any call about controls.
use Rattle.std.proofs.Common.{◌≡◌, ⊎_elim, ℕ, Bool, true, false, not, ◌==◌, cond, List, [], ◌∷◌, map, Option, None, Some, Result, refl, sym, ap, ◌∙◌, subst, eqb-true}
use Rattle.std.specs.Prelude.{is_none}
use Rattle.std.specs.List.{list_any}
use Rattle.std.proofs.lemmas.Bool.{false≢true}
use Rattle.std.proofs.lemmas.List.Elements.{All-head, All-tail}
use Rattle.tb_geom.specs.declared.refusal.Refusal.{Refusal}
use Rattle.tb_geom.specs.Points.{PixelSet}
use Rattle.window_items.specs.Items.{items_of, has_serial}
use Rattle.desk_layers.specs.declared.part.Part.{Part}
use Rattle.desk_layers.specs.declared.part.Part.TheVariants as part
use Rattle.desk_layers.specs.Desk as layers
use Rattle.desk_layers.proofs.Owning.{not_first}
use Rattle.window_list.specs.declared.layer.Layer.{Layer}
use Rattle.desk_call.specs.declared.control.ControlCall.{ControlCall}
use Rattle.desk_call.specs.declared.control.ControlReply.{ControlReply}
use Rattle.desk_call.specs.declared.update.LayerKind.TheVariants.{Controls}
use Rattle.vis_update.specs.Records.{Look, WindowRecord, content_layer, layered_window}
use Rattle.vis_update.specs.Relayings.{with_layers_of}
use Rattle.window_paint.specs.Kinds.{is_of}
use Rattle.window_mgr.specs.Finding.{record_with}
use Rattle.window_mgr.specs.FullDesk.{FullDesk, IsRightState, layered_desk, look_of}
use Rattle.window_mgr.specs.Refused.{is_missing}
use Rattle.window_mgr.proofs.LayerParts.{layers_with, parts_alike}
use Rattle.window_items.proofs.SerialLemmas.{apart_among, or_parts}
use Rattle.control_mgr.specs.ControlDesks.{ControlDesk, ControlRecord, ShowsControls}
use Rattle.control_mgr.specs.ControlSteps.{AreLayersOf, IsControlStep, behind_controls}
use Rattle.control_mgr.specs.WholeControls.{AreControlsApart, AreWholeControls}
use Rattle.control_mgr.proofs.ControlBits.{bare, missing_alike}
use Rattle.control_mgr.proofs.ControlFacts.{control_facts}
use Rattle.control_mgr.proofs.ControlsRight.{control_right, control_shows, step_leaves}
use Rattle.control_mgr.proofs.ControlsWhole.{control_whole}
use Rattle.control_mgr.proofs.Edited.{AreNoControls, no_control}
use Rattle.control_mgr.proofs.Settled.{AreJoined}

-- ---- layers that are told apart

-- a part that is none of some layers is none of those of them that lie behind the controls
none_behind : (look : Look) (content : PixelSet) (w : WindowRecord) (q : Part) (ls : List Layer) → layers.layer_of q (layers_with look content ls w) ≡ None
    → layers.layer_of q (layers_with look content (behind_controls ls) w) ≡ None
none_behind look content w q [] none = none
none_behind look content w q (l ∷ ls) none =
    let first = not_first (layers.same_part l.part q) (content_layer look content l) (layers.layer_of q (layers_with look content ls w)) none in
    by_test (is_of Controls l.part) first.0 (none_behind look content w q ls first.1)
  where
    by_test : (b : Bool) → layers.same_part l.part q ≡ false → layers.layer_of q (layers_with look content (behind_controls ls) w) ≡ None
        → layers.layer_of q (layers_with look content (cond (not b) (l ∷ behind_controls ls) (behind_controls ls)) w) ≡ None
    by_test true other rest = rest
    by_test false other rest = ap (λ b. cond b (Some (content_layer look content l)) (layers.layer_of q (layers_with look content (behind_controls ls) w))) other ∙ rest

-- those are apart where all are
parts_behind : (look : Look) (content : PixelSet) (w : WindowRecord) (ls : List Layer) → layers.AreParts (layers_with look content ls w) → layers.AreParts (layers_with look content (behind_controls ls) w)
parts_behind look content w [] apart = apart
parts_behind look content w (l ∷ ls) apart = by_test (is_of Controls l.part) (none_behind look content w l.part ls apart.0) (parts_behind look content w ls apart.1)
  where
    by_test : (b : Bool) → layers.layer_of l.part (layers_with look content (behind_controls ls) w) ≡ None → layers.AreParts (layers_with look content (behind_controls ls) w)
        → layers.AreParts (layers_with look content (cond (not b) (l ∷ behind_controls ls) (behind_controls ls)) w)
    by_test true none rest = rest
    by_test false none rest = (none, rest)

-- where none is a control's, none is this control's
none_other : (look : Look) (content : PixelSet) (w : WindowRecord) (n : ℕ) (ls : List Layer) → AreNoControls ls → layers.layer_of (part.Control n) (layers_with look content ls w) ≡ None
none_other look content w n [] others = refl
none_other look content w n (l ∷ ls) others =
    ap (λ b. cond b (Some (content_layer look content l)) (layers.layer_of (part.Control n) (layers_with look content ls w)))
    (no_control l.part n (All-head (λ (x : Layer). is_of Controls x.part ≡ false) l ls others))
    ∙ none_other look content w n ls (All-tail (λ (x : Layer). is_of Controls x.part ≡ false) l ls others)

-- a control that none of these has is no layer of them
none_part : (look : Look) (content : PixelSet) (w : WindowRecord) (n : ℕ) (cs : List ControlRecord) (ls : List Layer) → AreLayersOf cs ls → list_any (has_serial n) cs ≡ false
    → layers.layer_of (part.Control n) (layers_with look content ls w) ≡ None
none_part look content w n [] ls h none = none_other look content w n ls h
none_part look content w n (c ∷ cs) [] h none = absurd h
none_part look content w n (c ∷ cs) (l ∷ ls) h none =
    let both = or_parts (has_serial n c) (list_any (has_serial n) cs) none in
    ap (λ b. cond b (Some (content_layer look content l)) (layers.layer_of (part.Control n) (layers_with look content ls w))) (ap (λ q. layers.same_part q (part.Control n)) h.0.part ∙ both.0)
    ∙ none_part look content w n cs ls h.1 both.1

-- where none is a control's, all lie behind the controls
all_behind : (ls : List Layer) → AreNoControls ls → behind_controls ls ≡ ls
all_behind [] others = refl
all_behind (l ∷ ls) others =
    ap (λ b. cond (not b) (l ∷ behind_controls ls) (behind_controls ls)) (All-head (λ (x : Layer). is_of Controls x.part ≡ false) l ls others)
    ∙ ap (λ ks. l ∷ ks) (all_behind ls (All-tail (λ (x : Layer). is_of Controls x.part ≡ false) l ls others))

-- all are apart where the controls are, and the layers behind them
pub parts_of : (look : Look) (content : PixelSet) (w : WindowRecord) (cs : List ControlRecord) (ls : List Layer) → AreLayersOf cs ls → AreControlsApart cs
    → layers.AreParts (layers_with look content (behind_controls ls) w) → layers.AreParts (layers_with look content ls w)
parts_of look content w [] ls h apart behind = subst (λ ks. layers.AreParts (layers_with look content ks w)) (all_behind ls h) behind
parts_of look content w (c ∷ cs) [] h apart behind = absurd h
parts_of look content w (c ∷ cs) (l ∷ ls) h apart behind = (
  ap (λ q. layers.layer_of q (layers_with look content ls w)) h.0.part ∙ none_part look content w c.serial cs ls h.1 apart.0,
  parts_of look content w cs ls h.1 apart.1
      (subst (λ b. layers.AreParts (layers_with look content (cond (not b) (l ∷ behind_controls ls) (behind_controls ls)) w)) (ap (is_of Controls) h.0.part) behind),
)

-- ---- desks whose windows are the same but for their layers

-- a window is missing among layered ones where it is missing
none_of : (look : Look) (s : ℕ) (ws : List WindowRecord) → is_none (layers.window_of s (map (layered_window look) ws)) ≡ is_missing s ws
none_of look s [] = refl
none_of look s (w ∷ ws) = by_test (w.serial == s) (none_of look s ws)
  where
    by_test : (b : Bool) → is_none (layers.window_of s (map (layered_window look) ws)) ≡ is_missing s ws
        → is_none (cond b (Some (layered_window look w)) (layers.window_of s (map (layered_window look) ws))) ≡ is_none (cond b (Some w) (record_with s ws))
    by_test true rest = refl
    by_test false rest = rest

is_nothing : (o : Option layers.LayeredWindow) → is_none o ≡ true → o ≡ None
is_nothing None e = refl
is_nothing (Some w) e = absurd (false≢true e)

-- a window with the layers behind its controls alone
abbrev pub uncontrolled : WindowRecord → WindowRecord
uncontrolled w = record w { layers = behind_controls w.layers }

pub distinct_windows : (look other : Look) (ds : List ControlRecord) (ws vs : List WindowRecord) → AreControlsApart ds → map bare vs ≡ map bare ws → map uncontrolled vs ≡ map uncontrolled ws → AreJoined ds vs
    → layers.AreWindows (map (layered_window look) ws) → layers.AreWindows (map (layered_window other) vs)
distinct_windows look other ds ws [] apart same behind joined distinct = tt
distinct_windows look other ds [] (v ∷ vs) apart same behind joined distinct = absurd (cc)
distinct_windows look other ds (w ∷ ws) (v ∷ vs) apart same behind joined distinct =
    let first : bare v ≡ bare w = cc in
    let rest : map bare vs ≡ map bare ws = cc in
    let first_behind : uncontrolled v ≡ uncontrolled w = cc in
    let rest_behind : map uncontrolled vs ≡ map uncontrolled ws = cc in (
      is_nothing (layers.window_of v.serial (map (layered_window other) vs))
          (none_of other v.serial vs ∙ missing_alike v.serial ws vs rest ∙ sym (none_of look v.serial ws)
          ∙ ap (λ (x : WindowRecord). is_none (layers.window_of x.serial (map (layered_window look) ws))) first ∙ ap is_none distinct.0),
      (
        parts_of other (v.definition.content v.size) v (items_of v.serial ds) v.layers (All-head (λ x. AreLayersOf (items_of x.serial ds) x.layers) v vs joined) (apart_among v.serial ds apart)
            (parts_alike look other (uncontrolled w) (uncontrolled v) (ap (λ (x : WindowRecord). x.layers) first_behind) (parts_behind look (w.definition.content w.size) w w.layers distinct.1.0)),
        distinct_windows look other ds ws vs apart rest rest_behind (All-tail (λ x. AreLayersOf (items_of x.serial ds) x.layers) v vs joined) distinct.1.1,
      ),
    )

-- ---- the layers behind the controls

behind_laid : (look : Look) (s : ℕ) (ls : List Layer) (ws : List WindowRecord) → layers.AreWindows (map (layered_window look) ws)
    → ((w : WindowRecord) → record_with s ws ≡ Some w → behind_controls ls ≡ behind_controls w.layers) → map uncontrolled (map (with_layers_of s ls) ws) ≡ map uncontrolled ws
behind_laid look s ls [] distinct same = refl
behind_laid look s ls (w ∷ ws) distinct same = by_test (w.serial == s) refl same (behind_laid look s ls ws distinct.1.1)
  where
    -- no window behind it has its serial
    none_has : (w.serial == s) ≡ true → (v : WindowRecord) → record_with s ws ≡ Some v → ⊥
    none_has e v found =
        let missing : is_missing s ws ≡ true = sym (none_of look s ws)
        ∙ ap is_none (ap (λ n. layers.window_of n (map (layered_window look) ws)) (sym (eqb-true w.serial s e)) ∙ distinct.0) in
        false≢true (sym (ap is_none found) ∙ missing)

    by_test : (b : Bool) → (w.serial == s) ≡ b → ((v : WindowRecord) → cond b (Some w) (record_with s ws) ≡ Some v → behind_controls ls ≡ behind_controls v.layers)
        → (((v : WindowRecord) → record_with s ws ≡ Some v → behind_controls ls ≡ behind_controls v.layers) → map uncontrolled (map (with_layers_of s ls) ws) ≡ map uncontrolled ws)
        → uncontrolled (cond b (record w { layers = ls }) w) ∷ map uncontrolled (map (with_layers_of s ls) ws) ≡ uncontrolled w ∷ map uncontrolled ws
    by_test true e same rest =
        let rest_same = rest (λ v found. absurd (none_has e v found)) in
        λ i. record w { layers = same w refl i } ∷ rest_same i
    by_test false e same rest = ap (λ vs. uncontrolled w ∷ vs) (rest same)

-- a call about controls leaves the windows as they are but for their controls' layers
pub control_behind : (call : ControlCall) (result : Result ControlReply Refusal) (before after : ControlDesk) → layers.IsDesk (layered_desk before.desk.windows.desk)
    → AreControlsApart before.controls.controls → IsControlStep call result before after → map uncontrolled after.desk.windows.desk.windows ≡ map uncontrolled before.desk.windows.desk.windows
control_behind call result before after distinct apart step = ⊎_elim
    (λ still. ap (λ (d : FullDesk). map uncontrolled d.windows) still.0.desk)
    (λ other. ⊎_elim
    (λ its. ap (λ (d : FullDesk). map uncontrolled d.windows) its.laid.set.desk ∙ behind_laid (look_of before.desk.windows.desk) its.window its.laid.layers before.desk.windows.desk.windows distinct its.laid.others)
    (λ its. ap (λ (d : FullDesk). map uncontrolled d.windows) its.redrawn.desk)
    other)
    (step_leaves call result before after apart step)

-- the windows and their layers are told apart after any call about controls
pub control_distinct : (call : ControlCall) (result : Result ControlReply Refusal) (before after : ControlDesk) → layers.IsDesk (layered_desk before.desk.windows.desk)
    → AreWholeControls before.desk.windows.desk.windows before.controls → IsControlStep call result before after → layers.IsDesk (layered_desk after.desk.windows.desk)
control_distinct call result before after distinct whole step =
    let after_whole = control_whole call result before after whole step in
    distinct_windows (look_of before.desk.windows.desk) (look_of after.desk.windows.desk) after.controls.controls before.desk.windows.desk.windows after.desk.windows.desk.windows
    after_whole.apart (control_facts call result before after step).0.windows (control_behind call result before after distinct whole.apart step) after_whole.joined distinct

-- ---- the whole

-- what holds between calls: the state is right, the windows show the controls, and these are whole
pub record IsRightDesk (d : ControlDesk) : Type 0 where
  pub right : IsRightState d.desk.windows
  pub shows : ShowsControls d
  pub whole : AreWholeControls d.desk.windows.desk.windows d.controls

-- a call about controls keeps it
pub control_keeps : (call : ControlCall) (result : Result ControlReply Refusal) (before after : ControlDesk) → IsRightDesk before → IsControlStep call result before after → IsRightDesk after
control_keeps call result before after was step =
    let whole = control_whole call result before after was.whole step in
    record {
      right = control_right call result before after was.right was.shows was.whole whole (control_distinct call result before after was.right.plain.desk was.whole step) step;
      shows = control_shows call result before after was.whole.apart was.shows step;
      whole = whole;
    }
