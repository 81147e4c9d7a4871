use Rattle.std.proofs.Common.{pos, SFits, w32}
use Rattle.std.proofs.lemmas.Int.{to_z-of_z}
use Rattle.window_mgr.proofs.BarTitles.{titles_whole, titles_shown}
use Rattle.window_mgr.proofs.ZoomLemmas.{screen_fits}
use Rattle.window_mgr.proofs.manager.WindowManager.set_titles.Goals as goal

pub returns : goal.returns
returns g c slots whole =
    let fits : SFits w32 c.args.self.now.bar.rows = (screen_fits (pos c.args.self.now.screen.width) (pos c.args.self.now.screen.height) c.args.self.now.bar.rows whole.sound.screen).bar in
    let drawn = simp to_z-of_z at c.draw_bar.ensures in
    (titles_whole _ c.args.self.now slots whole c.args.titles c.draw_bar.new.map drawn, titles_shown _ c.args.self.now slots whole c.args.titles c.draw_bar.new.map drawn)
