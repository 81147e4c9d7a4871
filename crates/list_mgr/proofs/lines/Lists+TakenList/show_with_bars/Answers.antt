use Rattle.list_mgr.proofs.Relined.{controls_shown, kept_shown, lists_shown, spot_of_shown, spot_shown}
use Rattle.list_mgr.proofs.lines.Lists+TakenList.show_with_bars.Goals as goal

pub set_bars-requires-clause-kept : goal.set_bars-requires-clause-kept
set_bars-requires-clause-kept g c =
    kept_shown _ _ c.args.windows.now c.show.new.windows c.args.self.now c.args.spot c.requires.spot c.requires.kept c.args.within c.args.mark c.args.changes c.show.ensures.shown

pub set_bars-requires-clause-beside : goal.set_bars-requires-clause-beside
set_bars-requires-clause-beside g c =
    controls_shown _ _ c.args.windows.now c.show.new.windows c.args.self.now c.args.spot c.requires.spot c.requires.kept c.args.within c.args.mark c.args.changes c.show.ensures.shown _ c.args.controls.now c.requires.beside

pub set_bars-requires-clause-lists : goal.set_bars-requires-clause-lists
set_bars-requires-clause-lists g c =
    lists_shown _ _ c.args.windows.now c.show.new.windows c.args.self.now c.args.spot c.requires.spot c.requires.kept c.args.within c.args.mark c.args.changes c.show.ensures.shown c.requires.lists

pub set_bars-requires-clause-spot : goal.set_bars-requires-clause-spot
set_bars-requires-clause-spot g c =
    spot_shown _ _ c.args.windows.now c.show.new.windows c.args.self.now c.args.spot c.requires.spot c.requires.kept c.args.within c.args.mark c.args.changes c.show.ensures.shown

pub returns : goal.returns
returns g c l is = (
  c.show.new.windows,
  c.show.ensures.shown,
  c.set_bars.ensures l
      (spot_of_shown _ _ c.args.windows.now c.show.new.windows c.args.self.now c.args.spot c.requires.spot c.requires.kept c.args.within c.args.mark c.args.changes c.show.ensures.shown l is),
)
