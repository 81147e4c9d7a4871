use Rattle.std.proofs.Common.{refl}
use Rattle.desk_toolbox.proofs.toolbox.Toolbox.pixels_right.Goals as goal

pub returns-clause-whole : goal.returns-clause-whole
returns-clause-whole g c stocks whole = record {
  managers = record {
    windows = whole.managers.windows;
    updates = c.pixels_right.ensures.whole _ whole.managers.updates;
    controls = whole.managers.controls;
    trackable = whole.managers.trackable;
    menus = whole.managers.menus;
    front = whole.managers.front;
    lists = whole.managers.lists;
    texts = whole.managers.texts;
    selectable = whole.managers.selectable;
    known = whole.managers.known;
  };
  right = whole.right;
}

pub returns-clause-same : goal.returns-clause-same
returns-clause-same g c stocks = rw c.pixels_right.ensures.same refl
