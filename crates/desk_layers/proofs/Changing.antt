-- A change keeps the image right.
use Rattle.std.proofs.Common.{◌≡◌, Bool, true, false, not, if◌then◌else◌, refl, sym, ◌∙◌, ap}
use Rattle.std.proofs.lemmas.Bool.{and_parts}
use Rattle.tb_geom.specs.declared.point.Point.{Point}
use Rattle.desk_layers.specs.Desk.{on_screen}
use Rattle.desk_layers.specs.Owner.{Owner, owner, own_bit, is_content}
use Rattle.desk_layers.specs.Scratch.{scratch}
use Rattle.desk_layers.specs.Change.{Change, State, had, IsSound, IsChanged, IsRight}
use Rattle.desk_layers.proofs.Owning.{same_owner-true}
use Rattle.desk_layers.proofs.Painting.{scratch_is_owners}

-- a right pixel that stays with its layer is right as drawn on
kept_is_right : (c : Change) (before after : State) (p : Point) → IsRight before → IsSound c before after.desk → let o = owner after.desk p in on_screen after.desk p ≡ true → is_content o ≡ true → c.afresh o p ≡ false → c.taken o p ≡ false → c.added o p ≡ false → c.redrawn o ≡ false → had c before.desk o p ≡ true → before.stale (c.source o p) ≡ false → c.drawn o p (before.image (c.source o p)) ≡ scratch after.desk p
kept_is_right c before after p right sound on content afresh taken put drawn there fresh =
    let o = owner after.desk p in
    let q = c.source o p in
    let parts = and_parts _ _ there in
    let was : owner before.desk q ≡ o = same_owner-true (owner before.desk q) o parts.1 in
    ap (c.drawn o p) (right.right q parts.0 fresh ∙ scratch_is_owners before.desk q right.desk ∙ ap (λ (x : Owner). own_bit before.desk x q) was)
    ∙ sound.kept p on content afresh taken put drawn there
    ∙ sym (scratch_is_owners after.desk p sound.desk)

-- n: it is content, a: drawn afresh, t: taken out, f: put in, h: it had a source, which is stale: s; r: redrawn; v is
-- the value that stays, u the same as drawn on, x the one of painting from nothing
one_pixel : (n a t f h s r v u x : Bool) →
    (if not n then false else (if a then false else (if t then false else (if f then true else (if h then s else true))))) ≡ false →
    (t ≡ true → (if not n then x else (if a then x else (if not h then false else (if r then (if (if not n then false else (if a then false else (if t then false else (if f then true else (if h then s else true))))) then v else x) else u)))) ≡ x) →
    (n ≡ true → a ≡ false → t ≡ false → f ≡ false → r ≡ false → h ≡ true → s ≡ false → u ≡ x) →
    (if not n then x else (if a then x else (if not h then false else (if r then (if (if not n then false else (if a then false else (if t then false else (if f then true else (if h then s else true))))) then v else x) else u)))) ≡ x
one_pixel false a t f h s r v u x e taken kept = refl
one_pixel true true t f h s r v u x e taken kept = refl
one_pixel true false true f h s r v u x e taken kept = taken refl
one_pixel true false false true h s r v u x e taken kept = absurd (cc)
one_pixel true false false false false s r v u x e taken kept = absurd (cc)
one_pixel true false false false true true r v u x e taken kept = absurd (cc)
one_pixel true false false false true false true v u x e taken kept = refl
one_pixel true false false false true false false v u x e taken kept = kept refl refl refl refl refl refl refl

-- no pixel but one of content is stale
content_stale : (n b : Bool) → (if not n then false else b) ≡ true → n ≡ true
content_stale true b e = refl
content_stale false b e = absurd (cc)

pub stays_right : (c : Change) (before after : State) → IsRight before → IsSound c before after.desk → IsChanged c before after → IsRight after
stays_right c before after right sound changed = record {
  desk = sound.desk;
  right = λ p on fresh.
      let o = owner after.desk p in
      changed.image p on
      ∙ one_pixel (is_content o) (c.afresh o p) (c.taken o p) (c.added o p) (had c before.desk o p) (before.stale (c.source o p)) (c.redrawn o) (before.image (c.source o p)) (c.drawn o p (before.image (c.source o p))) (scratch after.desk p)
      (sym (changed.stale p on) ∙ fresh)
      (λ t. sound.right p on t)
      (λ n a t f r h s. kept_is_right c before after p right sound on n a t f r h s);
  content = λ p on old. content_stale (is_content (owner after.desk p)) _ (sym (changed.stale p on) ∙ old);
}
