-- Kinds of layers that are chosen, and what is kept as left once they are drawn.
use Rattle.std.proofs.Common.{◌≡◌, ℕ, ◌==◌, Bool, true, false, ◌&&◌, ◌||◌, not, refl, sym, ap, ◌∙◌, subst}
use Rattle.std.proofs.lemmas.Bool.{false≢true, and_parts}
use Rattle.tb_geom.specs.declared.point.Point.{Point}
use Rattle.tb_geom.specs.Points.{PixelSet, minus}
use Rattle.tb_geom.specs.Pixels.{Pixels, holds}
use Rattle.desk_layers.specs.declared.part.Part.{Part}
use Rattle.desk_layers.specs.declared.part.Part.TheVariants as part
use Rattle.desk_layers.specs.Desk.{same_part}
use Rattle.desk_layers.specs.Owner.{Owner}
use Rattle.desk_layers.specs.Owner.Owner.{Desktop, Bar, Frame, Content}
use Rattle.desk_call.specs.declared.update.LayerKind.{LayerKind}
use Rattle.desk_call.specs.declared.update.LayerKind.TheVariants.{Picture, Texts, Lists, Controls}
use Rattle.window_list.specs.Holders.{part_at, is_covered, ArePartsApart}
use Rattle.window_list.proofs.Parts.{covered_is}
use Rattle.window_list.specs.declared.window.Window.{Window}
use Rattle.window_paint.specs.Kinds.{is_of, is_kind_there}
use Rattle.window_paint.proofs.KindLayers.{picture_kind}
use Rattle.window_mgr.specs.Updating.{is_of_kind}
use Rattle.window_update.specs.declared.choices.Kinds.{Kinds}
use Rattle.window_update.specs.declared.choices.Split.{Split}
use Rattle.window_update.specs.declared.choices.Choices.{Choices}
use Rattle.window_update.specs.Choosing.{no_kinds, has_kind, with_kind, if_there, IsFurther, is_chosen, is_chosen_of, left_by, left_for, AreChoicesOf}

-- ---- choices

there_itself : (b : Bool) → if_there b b ≡ true
there_itself true = refl
there_itself false = refl

there_true : (b : Bool) → if_there b true ≡ true
there_true true = refl
there_true false = refl

-- one kind more is further
pub further_with : (kind : LayerKind) (d : Kinds) → has_kind d kind ≡ false → IsFurther d (with_kind kind d)
further_with Picture d lacks = (
  λ i. there_true d.picture i && (there_itself d.texts i && (there_itself d.lists i && there_itself d.controls i)),
  λ same. false≢true (sym (ap (λ (k : Kinds). k.picture) same ∙ lacks)),
)
further_with Texts d lacks = (
  λ i. there_itself d.picture i && (there_true d.texts i && (there_itself d.lists i && there_itself d.controls i)),
  λ same. false≢true (sym (ap (λ (k : Kinds). k.texts) same ∙ lacks)),
)
further_with Lists d lacks = (
  λ i. there_itself d.picture i && (there_itself d.texts i && (there_true d.lists i && there_itself d.controls i)),
  λ same. false≢true (sym (ap (λ (k : Kinds). k.lists) same ∙ lacks)),
)
further_with Controls d lacks = (
  λ i. there_itself d.picture i && (there_itself d.texts i && (there_itself d.lists i && there_true d.controls i)),
  λ same. false≢true (sym (ap (λ (k : Kinds). k.controls) same ∙ lacks)),
)

-- what is further than that has the kind
pub further_has : (kind : LayerKind) (d k : Kinds) → IsFurther (with_kind kind d) k → has_kind k kind ≡ true
further_has Picture d k further = (and_parts k.picture _ further.0).0
further_has Texts d k further = (and_parts k.texts _ (and_parts (if_there d.picture k.picture) _ further.0).1).0
further_has Lists d k further = (and_parts k.lists _ (and_parts (if_there d.texts k.texts) _ (and_parts (if_there d.picture k.picture) _ further.0).1).1).0
further_has Controls d k further = (and_parts (if_there d.lists k.lists) k.controls (and_parts (if_there d.texts k.texts) _ (and_parts (if_there d.picture k.picture) _ further.0).1).1).1

-- and is further than the rest
pub further_still : (kind : LayerKind) (d k : Kinds) → has_kind d kind ≡ false → IsFurther (with_kind kind d) k → IsFurther d k
further_still kind d k lacks further = (covers kind further.0, λ same. false≢true (sym lacks ∙ ap (λ x. has_kind x kind) (sym same) ∙ further_has kind d k further))
  where
    covers : (kind : LayerKind) → (if_there (with_kind kind d).picture k.picture && (if_there (with_kind kind d).texts k.texts && (if_there (with_kind kind d).lists k.lists && if_there (with_kind kind d).controls k.controls))) ≡ true
        → (if_there d.picture k.picture && (if_there d.texts k.texts && (if_there d.lists k.lists && if_there d.controls k.controls))) ≡ true
    covers Picture e =
        let parts = and_parts k.picture _ e in
        λ i. (ap (if_there d.picture) parts.0 ∙ there_true d.picture) i && parts.1 i
    covers Texts e =
        let parts = and_parts (if_there d.picture k.picture) _ e in
        let more = and_parts k.texts _ parts.1 in
        λ i. parts.0 i && ((ap (if_there d.texts) more.0 ∙ there_true d.texts) i && more.1 i)
    covers Lists e =
        let parts = and_parts (if_there d.picture k.picture) _ e in
        let next = and_parts (if_there d.texts k.texts) _ parts.1 in
        let more = and_parts k.lists _ next.1 in
        λ i. parts.0 i && (next.0 i && ((ap (if_there d.lists) more.0 ∙ there_true d.lists) i && more.1 i))
    covers Controls e =
        let parts = and_parts (if_there d.picture k.picture) _ e in
        let next = and_parts (if_there d.texts k.texts) _ parts.1 in
        let more = and_parts (if_there d.lists k.lists) k.controls next.1 in
        λ i. parts.0 i && (next.0 i && (more.0 i && (ap (if_there d.controls) more.1 ∙ there_true d.controls) i))

-- ---- owners of chosen kinds

chosen_with : (kind : LayerKind) (d : Kinds) (a : Part) → is_chosen (with_kind kind d) a ≡ (is_of kind a || is_chosen d a)
chosen_with Picture d part.Picture = refl
chosen_with Picture d (part.Text n) = refl
chosen_with Picture d (part.List n) = refl
chosen_with Picture d (part.Control n) = refl
chosen_with Texts d part.Picture = refl
chosen_with Texts d (part.Text n) = refl
chosen_with Texts d (part.List n) = refl
chosen_with Texts d (part.Control n) = refl
chosen_with Lists d part.Picture = refl
chosen_with Lists d (part.Text n) = refl
chosen_with Lists d (part.List n) = refl
chosen_with Lists d (part.Control n) = refl
chosen_with Controls d part.Picture = refl
chosen_with Controls d (part.Text n) = refl
chosen_with Controls d (part.List n) = refl
chosen_with Controls d (part.Control n) = refl

pub chosen_of_with : (kind : LayerKind) (d : Kinds) (s : ℕ) (o : Owner) → is_chosen_of (with_kind kind d) s o ≡ (is_of_kind kind s o || is_chosen_of d s o)
chosen_of_with kind d s Desktop = refl
chosen_of_with kind d s Bar = refl
chosen_of_with kind d s (Frame t) = refl
chosen_of_with kind d s (Content t a) = by_test (t == s)
  where
    by_test : (b : Bool) → (b && is_chosen (with_kind kind d) a) ≡ ((b && is_of kind a) || (b && is_chosen d a))
    by_test true = chosen_with kind d a
    by_test false = refl

-- where nothing is chosen
pub none_chosen : (s : ℕ) (o : Owner) → is_chosen_of no_kinds s o ≡ false
none_chosen s Desktop = refl
none_chosen s Bar = refl
none_chosen s (Frame t) = refl
none_chosen s (Content t a) = ap (λ b. t == s && b) (none a) ∙ never (t == s)
  where
    none : (a : Part) → is_chosen no_kinds a ≡ false
    none part.Picture = refl
    none (part.Control n) = refl
    none (part.List n) = refl
    none (part.Text n) = refl

    never : (b : Bool) → (b && false) ≡ false
    never true = refl
    never false = refl

-- a layer of a kind that a choice has is chosen
pub kind_chosen : (kind : LayerKind) (k : Kinds) (s : ℕ) (o : Owner) → has_kind k kind ≡ true → is_of_kind kind s o ≡ true → is_chosen_of k s o ≡ true
kind_chosen kind k s Desktop has e = absurd (false≢true e)
kind_chosen kind k s Bar has e = absurd (false≢true e)
kind_chosen kind k s (Frame t) has e = absurd (false≢true e)
kind_chosen kind k s (Content t a) has e =
    let parts = and_parts (t == s) (is_of kind a) e in
    λ i. parts.0 i && its kind a has parts.1 i
  where
    its : (kind : LayerKind) (a : Part) → has_kind k kind ≡ true → is_of kind a ≡ true → is_chosen k a ≡ true
    its Picture part.Picture has of = has
    its Picture (part.Text n) has of = absurd (false≢true of)
    its Picture (part.List n) has of = absurd (false≢true of)
    its Picture (part.Control n) has of = absurd (false≢true of)
    its Texts part.Picture has of = absurd (false≢true of)
    its Texts (part.Text n) has of = has
    its Texts (part.List n) has of = absurd (false≢true of)
    its Texts (part.Control n) has of = absurd (false≢true of)
    its Lists part.Picture has of = absurd (false≢true of)
    its Lists (part.Text n) has of = absurd (false≢true of)
    its Lists (part.List n) has of = has
    its Lists (part.Control n) has of = absurd (false≢true of)
    its Controls part.Picture has of = absurd (false≢true of)
    its Controls (part.Text n) has of = absurd (false≢true of)
    its Controls (part.List n) has of = absurd (false≢true of)
    its Controls (part.Control n) has of = has

-- ---- what is kept

-- what was drawn is not asked
left_drawn : (c : Choices) (d : Kinds) (a t b e : Bool) (p : Point) → left_by (record c { drawn = d }) a t b e p ≡ left_by c a t b e p
left_drawn c d true true true true p = refl
left_drawn c d true true true false p = refl
left_drawn c d true true false true p = refl
left_drawn c d true true false false p = refl
left_drawn c d true false true true p = refl
left_drawn c d true false true false p = refl
left_drawn c d true false false true p = refl
left_drawn c d true false false false p = refl
left_drawn c d false true true true p = refl
left_drawn c d false true true false p = refl
left_drawn c d false true false true p = refl
left_drawn c d false true false false p = refl
left_drawn c d false false true true p = refl
left_drawn c d false false true false p = refl
left_drawn c d false false false true p = refl
left_drawn c d false false false false p = refl

pub others_kept : (kind which : LayerKind) (old mid new : Choices) → kind ≡ which → mid ≡ record old { drawn = with_kind which old.drawn } → ((k : Kinds) → IsFurther mid.drawn k → left_for new k ≡ left_for mid k)
    → (k : Kinds) → IsFurther (with_kind kind old.drawn) k → left_for new k ≡ left_for old k
others_kept kind which old mid new is changed others k further =
    others k (subst (λ d. IsFurther d k) (ap (λ x. with_kind x old.drawn) is ∙ sym (ap (λ (c : Choices). c.drawn) changed)) further)
    ∙ ap (λ (c : Choices). left_for c k) changed
    ∙ λ i p. left_drawn old (with_kind which old.drawn) k.picture k.texts k.lists k.controls p i

-- a region cut in what a kind of layers has and the rest
abbrev pub IsSplit : Pixels → PixelSet → Split → Type 0
IsSplit update own s = ((p : Point) → holds s.own p ≡ (holds update p && own p)) × ((p : Point) → holds s.rest p ≡ (holds update p && not (holds s.own p)))

-- and in what two kinds have, and the rest
abbrev pub IsJoined : Pixels → Split → Split → Split → Type 0
IsJoined update one other s = ((p : Point) → holds s.own p ≡ (holds one.own p || holds other.own p)) × ((p : Point) → holds s.rest p ≡ (holds update p && not (holds one.own p || holds other.own p)))

-- what is the same of each sort of parts is the same of all
of_each : (f g : Part → Bool) → f part.Picture ≡ g part.Picture → ((n : ℕ) → f (part.Text n) ≡ g (part.Text n)) → ((n : ℕ) → f (part.List n) ≡ g (part.List n)) → ((n : ℕ) → f (part.Control n) ≡ g (part.Control n))
    → (q : Part) → f q ≡ g q
of_each f g picture texts lists controls part.Picture = picture
of_each f g picture texts lists controls (part.Text n) = texts n
of_each f g picture texts lists controls (part.List n) = lists n
of_each f g picture texts lists controls (part.Control n) = controls n

module _ {V : Type 0} {H : V → Type 0} (w : Window V H) (update : Pixels) (apart : ArePartsApart w.layers.layers) (c : Choices)
    (picture : ((p : Point) → holds c.picture.own p ≡ (holds update p && not (is_covered w.layers.layers (minus p w.layers.place)))) × ((p : Point) → holds c.picture.rest p ≡ (holds update p && not (holds c.picture.own p))))
    (texts : IsSplit update (is_kind_there Texts w) c.texts) (lists : IsSplit update (is_kind_there Lists w) c.lists) (controls : IsSplit update (is_kind_there Controls w) c.controls)
    (with_texts : IsJoined update c.picture c.texts c.with_texts) (with_lists : IsJoined update c.picture c.lists c.with_lists) (with_controls : IsJoined update c.picture c.controls c.with_controls) where
  abbrev its : Point → Part
  its p = part_at w.layers.layers (minus p w.layers.place)

  picture_own : (p : Point) → holds c.picture.own p ≡ (holds update p && is_of Picture (its p))
  picture_own p = picture.0 p ∙ ap (λ b. holds update p && not b) (covered_is w.layers.layers (minus p w.layers.place) apart) ∙ ap (λ b. holds update p && b) (twice (same_part (its p) part.Picture) ∙ sym (picture_kind Picture (its p) refl))
    where
      twice : (b : Bool) → not (not b) ≡ b
      twice true = refl
      twice false = refl

  rest_is : (u x : Bool) → (u && not (u && x)) ≡ (u && not x)
  rest_is true x = refl
  rest_is false x = refl

  either_is : (u x y : Bool) → ((u && x) || (u && y)) ≡ (u && (x || y))
  either_is true x y = refl
  either_is false x y = refl

  never : (u : Bool) → false ≡ (u && false)
  never true = refl
  never false = refl

  -- what the others have of a kind, and two kinds
  rest_of : (kind : LayerKind) (s : Split) → ((p : Point) → holds s.own p ≡ (holds update p && is_of kind (its p))) → ((p : Point) → holds s.rest p ≡ (holds update p && not (holds s.own p)))
      → (p : Point) → holds s.rest p ≡ (holds update p && not (is_of kind (its p)))
  rest_of kind s own rest p = rest p ∙ ap (λ x. holds update p && not x) (own p) ∙ rest_is (holds update p) (is_of kind (its p))

  both_own : (kind : LayerKind) (s both : Split) → ((p : Point) → holds s.own p ≡ (holds update p && is_of kind (its p))) → IsJoined update c.picture s both
      → (p : Point) → holds both.own p ≡ (holds update p && (is_of Picture (its p) || is_of kind (its p)))
  both_own kind s both own joined p = joined.0 p ∙ (λ i. picture_own p i || own p i) ∙ either_is (holds update p) (is_of Picture (its p)) (is_of kind (its p))

  both_rest : (kind : LayerKind) (s both : Split) → ((p : Point) → holds s.own p ≡ (holds update p && is_of kind (its p))) → IsJoined update c.picture s both
      → (p : Point) → holds both.rest p ≡ (holds update p && not (is_of Picture (its p) || is_of kind (its p)))
  both_rest kind s both own joined p =
      joined.1 p
      ∙ ap (λ x. holds update p && not x) ((λ i. picture_own p i || own p i) ∙ either_is (holds update p) (is_of Picture (its p)) (is_of kind (its p)))
      ∙ rest_is (holds update p) (is_of Picture (its p) || is_of kind (its p))

  abbrev Chosen : Bool → Bool → Bool → Bool → Kinds
  Chosen a t b e = record { picture = a; texts = t; lists = b; controls = e }

  -- a region that has of the update region the parts that a choice lacks
  so_chosen : (k : Kinds) (f : Part → Bool) → ((q : Part) → f q ≡ not (is_chosen k q)) → (p : Point) (b : Bool) → b ≡ (holds update p && f (its p)) → b ≡ (holds update p && not (is_chosen k (its p)))
  so_chosen k f same p b is = is ∙ ap (λ x. holds update p && x) (same (its p))

  -- by what a choice has
  by_choice : (a t b e : Bool) → (Chosen a t b e ≡ no_kinds → ⊥) → (p : Point) → left_by c a t b e p ≡ (holds update p && not (is_chosen (Chosen a t b e) (its p)))
  by_choice true false false false some p = so_chosen (Chosen true false false false) (λ q. not (is_of Picture q)) (of_each _ _ refl (λ n. refl) (λ n. refl) (λ n. refl)) p _ (rest_of Picture c.picture picture_own picture.1 p)
  by_choice false true false false some p = so_chosen (Chosen false true false false) (λ q. not (is_of Texts q)) (of_each _ _ refl (λ n. refl) (λ n. refl) (λ n. refl)) p _ (rest_of Texts c.texts texts.0 texts.1 p)
  by_choice false false true false some p = so_chosen (Chosen false false true false) (λ q. not (is_of Lists q)) (of_each _ _ refl (λ n. refl) (λ n. refl) (λ n. refl)) p _ (rest_of Lists c.lists lists.0 lists.1 p)
  by_choice false false false true some p = so_chosen (Chosen false false false true) (λ q. not (is_of Controls q)) (of_each _ _ refl (λ n. refl) (λ n. refl) (λ n. refl)) p _ (rest_of Controls c.controls controls.0 controls.1 p)
  by_choice true true false false some p = so_chosen (Chosen true true false false) (λ q. not (is_of Picture q || is_of Texts q)) (of_each _ _ refl (λ n. refl) (λ n. refl) (λ n. refl)) p _ (both_rest Texts c.texts c.with_texts texts.0 with_texts p)
  by_choice true false true false some p = so_chosen (Chosen true false true false) (λ q. not (is_of Picture q || is_of Lists q)) (of_each _ _ refl (λ n. refl) (λ n. refl) (λ n. refl)) p _ (both_rest Lists c.lists c.with_lists lists.0 with_lists p)
  by_choice true false false true some p = so_chosen (Chosen true false false true) (λ q. not (is_of Picture q || is_of Controls q)) (of_each _ _ refl (λ n. refl) (λ n. refl) (λ n. refl)) p _ (both_rest Controls c.controls c.with_controls controls.0 with_controls p)
  by_choice false true true false some p = so_chosen (Chosen false true true false) (λ q. is_of Picture q || is_of Controls q) (of_each _ _ refl (λ n. refl) (λ n. refl) (λ n. refl)) p _ (both_own Controls c.controls c.with_controls controls.0 with_controls p)
  by_choice false true false true some p = so_chosen (Chosen false true false true) (λ q. is_of Picture q || is_of Lists q) (of_each _ _ refl (λ n. refl) (λ n. refl) (λ n. refl)) p _ (both_own Lists c.lists c.with_lists lists.0 with_lists p)
  by_choice false false true true some p = so_chosen (Chosen false false true true) (λ q. is_of Picture q || is_of Texts q) (of_each _ _ refl (λ n. refl) (λ n. refl) (λ n. refl)) p _ (both_own Texts c.texts c.with_texts texts.0 with_texts p)
  by_choice false true true true some p = so_chosen (Chosen false true true true) (λ q. is_of Picture q) (of_each _ _ refl (λ n. refl) (λ n. refl) (λ n. refl)) p _ (picture_own p)
  by_choice true false true true some p = so_chosen (Chosen true false true true) (λ q. is_of Texts q) (of_each _ _ refl (λ n. refl) (λ n. refl) (λ n. refl)) p _ (texts.0 p)
  by_choice true true false true some p = so_chosen (Chosen true true false true) (λ q. is_of Lists q) (of_each _ _ refl (λ n. refl) (λ n. refl) (λ n. refl)) p _ (lists.0 p)
  by_choice true true true false some p = so_chosen (Chosen true true true false) (λ q. is_of Controls q) (of_each _ _ refl (λ n. refl) (λ n. refl) (λ n. refl)) p _ (controls.0 p)
  by_choice true true true true some p = so_chosen (Chosen true true true true) (λ q. false) (of_each _ _ refl (λ n. refl) (λ n. refl) (λ n. refl)) p _ (never (holds update p))
  by_choice false false false false some p = absurd (some refl)

  -- the regions are those of an update that begins
  pub choices_of : c.drawn ≡ no_kinds → AreChoicesOf w update c
  choices_of none = record { drawn = none; left = λ k further p. by_choice k.picture k.texts k.lists k.controls further.1 p }
