use Rattle.std.proofs.Common.{ℕ, List, ◌++◌, ap, sym, ◌∙◌}
use Rattle.std.specs.Prelude.{is_ok}
use Rattle.desk_call.specs.declared.list.ListReply.TheVariants as reply
use Rattle.list_mgr.proofs.Asked.{data_told}
use Rattle.list_mgr.proofs.asking.Lists+TakenList.data.Goals as goal

pub returns : goal.returns
returns g c =
    data_told _ _ c.args.windows.now c.args.self.now c.args.asked c.in_ok-spot.spot c.index.result.now c.in_ok-spot.ensures c.index.ensures
    (sym c.cell.ensures.found ∙ ap is_ok c.in_ok-bytes.was) (reply.Data c.extend_from_slice.new.self)
    (c.in_ok-extend_from_slice.ensures.items ∙ ap (λ (xs : List ℕ). xs ++ c.in_ok-bytes.bytes.now) c.new-data.ensures.items ∙ c.in_ok-bytes.ensures.bytes)
