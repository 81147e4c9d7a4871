use Rattle.std.proofs.Common.{if◌then◌else◌, SFits, w32, rules, sym, ap}
use Rattle.std.proofs.lemmas.Int.{to_z-of_z}
use Rattle.tb_geom.specs.declared.refusal.Refusal.TheVariants.{NoMemory, OutOfRange}
use Rattle.window_mgr.specs.FullDesk.{FullDesk}
use Rattle.desk_laws.proofs.HeadlineLaws.{headline_holds}
use Rattle.desk_laws.proofs.KeptScreens.{desk_stays}
use Rattle.desk_laws.proofs.desk_after.desk_after.Goals as goal

pub run-requires : goal.run-requires
run-requires g c = c.in-Ok.ensures.whole _ c.requires

pub returns-in-Ok-run-clause-headline : goal.returns-in-Ok-run-clause-headline
returns-in-Ok-run-clause-headline g c =
    (_, c.in-Ok.ensures.just_begun _ c.requires, headline_holds _ _ _ _ (c.in-Ok.ensures.just_begun _ c.requires) c.in-Ok-run.ensures.run)

pub returns-in-Ok-run-clause-asked : goal.returns-in-Ok-run-clause-asked
returns-in-Ok-run-clause-asked g c =
    let fits_w : SFits w32 c.args.width = search rules in
    let fits_h : SFits w32 c.args.height = search rules in
    let fits_b : SFits w32 c.args.bar = search rules in
    let begun = c.in-Ok.ensures.begun _ c.requires.windows in
    let empty = (simp to_z-of_z at begun).desk in
    desk_stays _ _ _ _ c.in-Ok-run.ensures.run _ _ _ _ (record {
      width = ap (λ (d : FullDesk). d.width) empty;
      height = ap (λ (d : FullDesk). d.height) empty;
      bar = ap (λ (d : FullDesk). d.bar.rows) empty;
      font = ap (λ (d : FullDesk). d.font) empty;
    })

pub returns-in-Err-run-clause-refused : goal.returns-in-Err-run-clause-refused
returns-in-Err-run-clause-refused g c =
    let fits_w : SFits w32 c.args.width = search rules in
    let fits_h : SFits w32 c.args.height = search rules in
    let fits_b : SFits w32 c.args.bar = search rules in
    let in_range = simp to_z-of_z at c.in-Ok.ensures.in_range in
    sym (ap (λ b. if b then NoMemory else OutOfRange) in_range)
