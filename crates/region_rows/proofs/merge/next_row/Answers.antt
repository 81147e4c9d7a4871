use Rattle.std.proofs.Common.{◌≡◌, ◌<ℤ◌, ◌∙◌, sym, rules, inl, inr, SFits, w32, to_z, of_z}
use Rattle.std.proofs.lemmas.Int.{ints}
use Rattle.region_rows.proofs.Merged.{read_hit, read_miss, top_read}
use Rattle.region_rows.proofs.merge.next_row.Goals as goal

pub returns-then-first-second-clause-in_a : goal.returns-then-first-second-clause-in_a
returns-then-first-second-clause-in_a c =
    let fits : SFits w32 c.v-first.result = search rules in
    let is : to_z w32 (of_z w32 c.v-first.result) ≡ c.in-Some-Some.p.now.0 = search rules in
    read_hit c.args.a.now c.args.i c.in-Some-Some.p.now (to_z w32 (of_z w32 c.v-first.result)) c.points.result.now c.requires.a_rows c.in-Some-Some.ensures.lookup.3.0 c.in-Some-Some.ensures.lookup.1 is c.points.ensures

pub returns-then-first-second-clause-in_b : goal.returns-then-first-second-clause-in_b
returns-then-first-second-clause-in_b c =
    let fits : SFits w32 c.v-first.result = search rules in
    let fits_second : SFits w32 c.v-second.result = search rules in
    let below : to_z w32 (of_z w32 c.v-first.result) <ℤ c.in-Some-Some.q.now.0 = search (rules, ints) in
    read_miss c.args.b.now c.args.j (to_z w32 (of_z w32 c.v-first.result)) (λ l. rw (top_read c.args.b.now c.args.j c.in-Some-Some.q.now c.in-Some-Some.ensures'.lookup.3.0 c.in-Some-Some.ensures'.lookup.1) below)

pub returns-then-first-second-clause-here : goal.returns-then-first-second-clause-here
returns-then-first-second-clause-here c =
    let fits : SFits w32 c.v-first.result = search rules in
    let is : to_z w32 (of_z w32 c.v-first.result) ≡ c.in-Some-Some.p.now.0 = search rules in
    inl (c.in-Some-Some.ensures.lookup.3.0, top_read c.args.a.now c.args.i c.in-Some-Some.p.now c.in-Some-Some.ensures.lookup.3.0 c.in-Some-Some.ensures.lookup.1 ∙ sym is)

pub returns-then-second-first-clause-in_a : goal.returns-then-second-first-clause-in_a
returns-then-second-first-clause-in_a c =
    let fits : SFits w32 c.v-first.result = search rules in
    let fits_second : SFits w32 c.v-second.result = search rules in
    let below : to_z w32 (of_z w32 c.v-second.result) <ℤ c.in-Some-Some.p.now.0 = search (rules, ints) in
    read_miss c.args.a.now c.args.i (to_z w32 (of_z w32 c.v-second.result)) (λ l. rw (top_read c.args.a.now c.args.i c.in-Some-Some.p.now c.in-Some-Some.ensures.lookup.3.0 c.in-Some-Some.ensures.lookup.1) below)

pub returns-then-second-first-clause-in_b : goal.returns-then-second-first-clause-in_b
returns-then-second-first-clause-in_b c =
    let fits : SFits w32 c.v-second.result = search rules in
    let is : to_z w32 (of_z w32 c.v-second.result) ≡ c.in-Some-Some.q.now.0 = search rules in
    read_hit c.args.b.now c.args.j c.in-Some-Some.q.now (to_z w32 (of_z w32 c.v-second.result)) c.points-then-second-first.result.now c.requires.b_rows c.in-Some-Some.ensures'.lookup.3.0 c.in-Some-Some.ensures'.lookup.1 is c.points-then-second-first.ensures

pub returns-then-second-first-clause-here : goal.returns-then-second-first-clause-here
returns-then-second-first-clause-here c =
    let fits : SFits w32 c.v-second.result = search rules in
    let is : to_z w32 (of_z w32 c.v-second.result) ≡ c.in-Some-Some.q.now.0 = search rules in
    inr (c.in-Some-Some.ensures'.lookup.3.0, top_read c.args.b.now c.args.j c.in-Some-Some.q.now c.in-Some-Some.ensures'.lookup.3.0 c.in-Some-Some.ensures'.lookup.1 ∙ sym is)

pub returns-else-second-first-clause-in_a : goal.returns-else-second-first-clause-in_a
returns-else-second-first-clause-in_a c =
    let fits : SFits w32 c.v-first.result = search rules in
    let is : to_z w32 (of_z w32 c.v-first.result) ≡ c.in-Some-Some.p.now.0 = search rules in
    read_hit c.args.a.now c.args.i c.in-Some-Some.p.now (to_z w32 (of_z w32 c.v-first.result)) c.points-in-Some-Some.result.now c.requires.a_rows c.in-Some-Some.ensures.lookup.3.0 c.in-Some-Some.ensures.lookup.1 is c.points-in-Some-Some.ensures

pub returns-else-second-first-clause-in_b : goal.returns-else-second-first-clause-in_b
returns-else-second-first-clause-in_b c =
    let fits : SFits w32 c.v-first.result = search rules in
    let fits_second : SFits w32 c.v-second.result = search rules in
    let alike : c.v-first.result ≡ c.v-second.result = search (rules, ints) in
    let is : to_z w32 (of_z w32 c.v-first.result) ≡ c.in-Some-Some.q.now.0 = search (rules, ints) in
    read_hit c.args.b.now c.args.j c.in-Some-Some.q.now (to_z w32 (of_z w32 c.v-first.result)) c.points-in-Some-Some-2.result.now c.requires.b_rows c.in-Some-Some.ensures'.lookup.3.0 c.in-Some-Some.ensures'.lookup.1 is c.points-in-Some-Some-2.ensures

pub returns-else-second-first-clause-here : goal.returns-else-second-first-clause-here
returns-else-second-first-clause-here c =
    let fits : SFits w32 c.v-first.result = search rules in
    let is : to_z w32 (of_z w32 c.v-first.result) ≡ c.in-Some-Some.p.now.0 = search rules in
    inl (c.in-Some-Some.ensures.lookup.3.0, top_read c.args.a.now c.args.i c.in-Some-Some.p.now c.in-Some-Some.ensures.lookup.3.0 c.in-Some-Some.ensures.lookup.1 ∙ sym is)

pub returns-in-Some-None-clause-in_a : goal.returns-in-Some-None-clause-in_a
returns-in-Some-None-clause-in_a c =
    let fits : SFits w32 c.v.result = search rules in
    let is : to_z w32 (of_z w32 c.v.result) ≡ c.in-Some-None.p.now.0 = search rules in
    read_hit c.args.a.now c.args.i c.in-Some-None.p.now (to_z w32 (of_z w32 c.v.result)) c.points-in-Some-None.result.now c.requires.a_rows c.in-Some-None.ensures.lookup.3.0 c.in-Some-None.ensures.lookup.1 is c.points-in-Some-None.ensures

pub returns-in-Some-None-clause-in_b : goal.returns-in-Some-None-clause-in_b
returns-in-Some-None-clause-in_b c = read_miss c.args.b.now c.args.j _ (λ l. absurd (search rules))

pub returns-in-None-Some-clause-in_a : goal.returns-in-None-Some-clause-in_a
returns-in-None-Some-clause-in_a c = read_miss c.args.a.now c.args.i _ (λ l. absurd (search rules))

pub returns-in-None-Some-clause-in_b : goal.returns-in-None-Some-clause-in_b
returns-in-None-Some-clause-in_b c =
    let fits : SFits w32 c.v-in-None-Some.result = search rules in
    let is : to_z w32 (of_z w32 c.v-in-None-Some.result) ≡ c.in-None-Some.q.now.0 = search rules in
    read_hit c.args.b.now c.args.j c.in-None-Some.q.now (to_z w32 (of_z w32 c.v-in-None-Some.result)) c.points-in-None-Some.result.now c.requires.b_rows c.in-None-Some.ensures'.lookup.3.0 c.in-None-Some.ensures'.lookup.1 is c.points-in-None-Some.ensures
