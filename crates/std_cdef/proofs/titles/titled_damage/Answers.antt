use Rattle.looks.specs.Letters.{lettering}
use Rattle.std_cdef.proofs.Hearing.{same_letters}
use Rattle.std_cdef.proofs.titles.titled_damage.Goals as goal

pub returns-clause-alike : goal.returns-clause-alike
returns-clause-alike c font =
    c.damage_between.ensures.alike (lettering font c.args.old.now.title) (lettering font c.args.new.now.title)
    (same_letters font c.args.old.now.title c.args.new.now.title c.same_title.result c.same_title.ensures)
