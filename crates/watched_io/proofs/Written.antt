-- Texts that are written one after the other.
use Rattle.std.proofs.Common.{◌≡◌, ℕ, ◌+◌, ◌<◌, List, [], ◌++◌, length, take, drop, get_or, Result, Ok, Err, refl, sym, ap, ◌∙◌, subst, append_assoc, take-append-drop}
use Rattle.std.specs.Result.{IsErrAnd}
use Rattle.std.specs.List.{flat_map}
use Rattle.std.proofs.KnownBytes.{Appends-nil, Appends-trans}
use Rattle.std.proofs.lemmas.List.{drop_more}
use Rattle.std.proofs.lemmas.List.Concat.{flat_map-append}
use Rattle.tb_geom.specs.declared.refusal.Refusal.{Refusal}
use Rattle.tb_geom.specs.declared.refusal.Refusal.TheVariants.{WriteFault}
use Rattle.watched_io.specs.Writes.{Output, Sent, BrokeOff, Sends}

-- nothing written
pub Sent-nil : (a : Output) → Sent a a []
Sent-nil a = record { bytes = Appends-nil a.contents; quiet = refl }

-- one text after another
pub Sent-trans : (a b c : Output) (xs ys : List ℕ) → Sent a b xs → Sent b c ys → Sent a c (xs ++ ys)
Sent-trans a b c xs ys p q = record {
  bytes = Appends-trans a.contents b.contents c.contents xs ys p.bytes q.bytes;
  quiet = q.quiet ∙ p.quiet;
}

-- after the first text a front of the second was written
pub BrokeOff-after : (a b c : Output) (xs ys : List ℕ) → Sent a b xs → BrokeOff b c ys → BrokeOff a c (xs ++ ys)
BrokeOff-after a b c xs ys p q = record {
  front = xs ++ q.front;
  back = q.back;
  split = ap (λ l. xs ++ l) q.split ∙ sym (append_assoc xs q.front q.back);
  bytes = Appends-trans a.contents b.contents c.contents xs q.front p.bytes q.bytes;
  failed = q.failed;
}

-- what broke off in the first text has written a front of both
pub BrokeOff-more : (a b : Output) (xs ys : List ℕ) → BrokeOff a b xs → BrokeOff a b (xs ++ ys)
BrokeOff-more a b xs ys p = record {
  front = p.front;
  back = p.back ++ ys;
  split = ap (λ l. l ++ ys) p.split ∙ append_assoc p.front p.back ys;
  bytes = p.bytes;
  failed = p.failed;
}

-- the last of two texts decides how the call ends
pub Sends-after : {X : Type 0} (a b c : Output) (r : Result X Refusal) (xs ys : List ℕ) → Sent a b xs → Sends b c r ys → Sends a c r (xs ++ ys)
Sends-after a b c (Ok x) xs ys p q = Sent-trans a b c xs ys p q
Sends-after a b c (Err e) xs ys p q = (q.0, BrokeOff-after a b c xs ys p q.1)

-- the exit of a `?`: xs was written, the call broke off in ys, and zs would have followed
pub Sends-exit : {X : Type 0} (a b c : Output) (r : Result X Refusal) (e : Refusal) (xs ys zs text : List ℕ)
    → IsErrAnd r (λ y. y ≡ e) → Sent a b xs → (e ≡ WriteFault) × BrokeOff b c ys → text ≡ (xs ++ ys) ++ zs → Sends a c r text
Sends-exit a b c (Ok x) e xs ys zs text h p q split = absurd h
Sends-exit a b c (Err y) e xs ys zs text h p q split =
    (h ∙ q.0, subst (BrokeOff a c) (sym split) (BrokeOff-more a c (xs ++ ys) zs (BrokeOff-after a b c xs ys p q.1)))

-- the exit of the first `?`: the call broke off in xs, and ys would have followed
pub Sends-exit_first : {X : Type 0} (a b : Output) (r : Result X Refusal) (e : Refusal) (xs ys : List ℕ)
    → IsErrAnd r (λ y. y ≡ e) → (e ≡ WriteFault) × BrokeOff a b xs → Sends a b r (xs ++ ys)
Sends-exit_first a b (Ok x) e xs ys h q = absurd h
Sends-exit_first a b (Err y) e xs ys h q = (h ∙ q.0, BrokeOff-more a b xs ys q.1)

-- the pieces before the i-th, that one, and those after it
pub flat_map-around : {X : Type 0} (f : X → List ℕ) (xs : List X) (i : ℕ) (d : X) → i < length xs
    → flat_map f xs ≡ (flat_map f (take i xs) ++ f (get_or xs i d)) ++ flat_map f (drop (i + 1) xs)
flat_map-around f xs i d h =
    ap (flat_map f) (sym (take-append-drop i xs)) ∙ flat_map-append f (take i xs) (drop i xs)
    ∙ ap (λ l. flat_map f (take i xs) ++ flat_map f l) (drop_more xs i d h)
    ∙ sym (append_assoc (flat_map f (take i xs)) (f (get_or xs i d)) (flat_map f (drop (i + 1) xs)))
