use Rattle.std.proofs.Common.{ℕ, Ok, Err, arith, refl}
use Rattle.std.specs.declared.vec.Vec.{Vec}
use Rattle.std.specs.declared.alloc.Global.{Global}
use Rattle.tb_geom.specs.declared.refusal.Refusal.TheVariants.{NoSuchWindow}
use Rattle.desk_call.specs.declared.window.WindowReply.TheVariants.{Region}
use Rattle.window_mgr.proofs.Seating.{as_many}
use Rattle.window_mgr.proofs.TellLemmas as telling
use Rattle.window_mgr.proofs.manager.WindowManager.answer_region.Goals as goal

pub index_mut-requires : goal.index_mut-requires
index_mut-requires g c =
    let many = as_many _ c.args.self.now c.requires in
    let low = c.in-Some.ensures.0 in
    let long = c.args.self.now.areas.ok.0 in
    omega arith

pub area_bytes-requires-clause-origin : goal.area_bytes-requires-clause-origin
area_bytes-requires-clause-origin g c =
    (telling.settled _ c.args.self.now c.requires c.args.window c.in-Some.at c.at.result.now c.in-Some.ensures.0 c.at.ensures (c.in-Some.ensures.1 c.at.result.now c.at.ensures)).placed

pub area_bytes-requires-clause-there : goal.area_bytes-requires-clause-there
area_bytes-requires-clause-there g c =
    telling.region_local _ c.args.self.now c.requires c.args.window c.in-Some.at c.at.result.now c.in-Some.ensures.0 c.at.ensures (c.in-Some.ensures.1 c.at.result.now c.at.ensures) c.index_mut.result.now c.index_mut.ensures.value c.args.told

pub area_bytes-requires-clause-here : goal.area_bytes-requires-clause-here
area_bytes-requires-clause-here g c =
    telling.region_screen _ c.args.self.now c.requires c.args.window c.in-Some.at c.at.result.now c.in-Some.ensures.0 c.at.ensures (c.in-Some.ensures.1 c.at.result.now c.at.ensures) c.index_mut.result.now c.index_mut.ensures.value c.args.told

pub returns-in_default-clause-step : goal.returns-in_default-clause-step
returns-in_default-clause-step g c =
    telling.region_refused _ c.args.self.now c.requires c.args.window c.args.told c.args.self.now NoSuchWindow (record { screen = refl; bar = refl; font = refl; gray = refl; desktop = refl; windows = refl; areas = refl; active = refl; next = refl }) (telling.missing_refused _ c.args.self.now c.requires c.args.window c.args.told c.in_default.ensures)

pub returns-in-Ok-clause-step : goal.returns-in-Ok-clause-step
returns-in-Ok-clause-step g c =
    let same = telling.same_desk _ c.args.self.now c.requires c.args.window c.in-Some.at c.index_mut.result.now c.area_bytes.new.area c.index_mut.ensures.value c.in-Ok.ensures.same in
    let told = telling.region_told _ c.args.self.now c.requires c.args.window c.in-Some.at c.at.result.now c.in-Some.ensures.0 c.at.ensures (c.in-Some.ensures.1 c.at.result.now c.at.ensures) c.index_mut.result.now c.index_mut.ensures.value c.args.told (λ b. b.items) (Ok c.in-Ok.bytes) c.in-Ok.ensures.bytes in
    telling.region_step _ c.args.self.now c.requires c.args.window c.args.told _ (Region c.in-Ok.bytes) same told.0 told.1

pub returns-in-Err-clause-step : goal.returns-in-Err-clause-step
returns-in-Err-clause-step g c =
    let same = telling.same_desk _ c.args.self.now c.requires c.args.window c.in-Some.at c.index_mut.result.now c.area_bytes.new.area c.index_mut.ensures.value c.in-Err.ensures.same in
    let told = telling.region_told _ c.args.self.now c.requires c.args.window c.in-Some.at c.at.result.now c.in-Some.ensures.0 c.at.ensures (c.in-Some.ensures.1 c.at.result.now c.at.ensures) c.index_mut.result.now c.index_mut.ensures.value c.args.told {X = Vec ℕ Global} (λ b. b.items) (Err c.in-Err.refusal) c.in-Err.ensures.bytes in
    telling.region_refused _ c.args.self.now c.requires c.args.window c.args.told _ c.in-Err.refusal same told
