use Rattle.std.proofs.Common.{rules, ◌<ℤ◌, SFits, w32}
use Rattle.std.proofs.lemmas.Int.{ints}
use Rattle.region_rows.proofs.Above.{above_by_ends, ends_of_above, none_first, none_second}
use Rattle.region_rows.proofs.apart.is_above.Goals as goal

pub returns-in-Some-Some : goal.returns-in-Some-Some
returns-in-Some-Some c =
    let fits_p : SFits w32 c.v.result = search rules in
    let fits_q : SFits w32 c.v-in-Some-Some.result = search rules in
    let last = c.in-Some-Some.ensures.item.3 in
    let first = c.in-Some-Some.ensures'.item.3 in (
      λ t.
          let below : c.v.result <ℤ c.v-in-Some-Some.result = search (rules, ints) in
          above_by_ends c.args.a.now c.args.b.now c.in-Some-Some.p.now c.in-Some-Some.q.now c.requires.a_rows c.requires.b_rows last.0 first.0 (last.1 _) (first.1 _) (rw (c.v.ensures, c.v-in-Some-Some.ensures) at below),
      λ above.
          let below : c.v.result <ℤ c.v-in-Some-Some.result = rw (c.v.ensures, c.v-in-Some-Some.ensures) (ends_of_above c.args.a.now c.args.b.now c.in-Some-Some.p.now c.in-Some-Some.q.now last.0 first.0 (last.1 _) (first.1 _) above) in
          search (rules, ints),
    )

pub returns-in_default : goal.returns-in_default
returns-in_default c = (λ t. none_second _ _ c.requires.a_rows (search rules), λ above. search rules)

pub returns-in_default-2 : goal.returns-in_default-2
returns-in_default-2 c = (λ t. none_first _ _ c.requires.b_rows (search rules), λ above. search rules)
