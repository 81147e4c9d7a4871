-- A standard window, and what it keeps of what it is told.
use Rattle.std.specs.Prelude.{[], pos}
use Rattle.def_iface.specs.declared.window_def.Stage.{Stage}
use Rattle.def_iface.specs.declared.window_def.Stage.TheVariants.{Fresh}
use Rattle.def_iface.specs.declared.window_def.WindowChange.{WindowChange}
use Rattle.def_iface.specs.WindowMeaning.{WindowDefinition, size_after}
use Rattle.std_wdef.specs.declared.std_window.StdWindow.{StdWindow}
use Rattle.std_wdef.specs.declared.kind.Variation.{Variation}
use Rattle.def_iface.specs.WindowKeeping.{no_flags, flags_after, title_after}
use Rattle.std_wdef.specs.Windows.{std_window}

-- what the window is
abbrev pub window_meaning : StdWindow → WindowDefinition
window_meaning w = std_window w.variation w.stage w.flags w.title w.size

-- a window that was told nothing yet
abbrev pub fresh_window : Variation → StdWindow
fresh_window v = record {
  variation = v;
  stage = Fresh;
  flags = no_flags;
  title = [];
  size = record { width = pos 0; height = pos 0 };
}

-- the window after a change
abbrev pub told_window : WindowChange → StdWindow → StdWindow
told_window change w = record w {
  flags = flags_after change w.flags;
  title = title_after change w.title;
  size = size_after change w.size;
}

-- the window at another stage
abbrev pub window_at : Stage → StdWindow → StdWindow
window_at stage w = record w { stage = stage }
