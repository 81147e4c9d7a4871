use Rattle.std.proofs.Common.{◌≡◌, ℕ, ◌-◌, List, ◌++◌, length, take, ap, ◌∙◌, arith}
use Rattle.std.specs.Prelude.{OnOk, Result, Ok, Err, if◌then◌else◌}
use Rattle.std.specs.Result.{is_ok}
use Rattle.std.specs.Prelude.{min}
use Rattle.watched_io.proofs.TakeLemmas.{take_more}
use Rattle.watched_io.proofs.whole.keep.Goals as goal

where_ok : {X E : Type 0} (r : Result X E) (xs new old all : List ℕ) → xs ≡ (if is_ok r then new else old) → new ≡ all → OnOk r (xs ≡ all)
where_ok (Ok x) xs new old all e f = e ∙ f
where_ok (Err x) xs new old all e f = tt

pub returns : goal.returns
returns c all e =
    let long = c.args.bytes.now.ok.0 in
    let same : c.len.result ≡ length c.args.bytes.now.items = c.len.ensures ∙ (omega (arith, long)) in
    where_ok c.extend_from_slice.result _ _ _ _ c.extend_from_slice.ensures.items (
    ap (λ n. c.args.bytes.now.items ++ take n c.args.more.now) (c.min.ensures ∙ ap (λ room. min room (length c.args.more.now)) (c.saturating_sub-room.ensures ∙ ap (λ n. c.args.most - n) same))
    ∙ ap (λ kept. kept ++ take (min (c.args.most - length kept) (length c.args.more.now)) c.args.more.now) e
    ∙ take_more c.args.most all c.args.more.now)
