use Rattle.std.proofs.Common.{rules, arith, ◌++◌, ◌≡◌}
use Rattle.text_record.proofs.ByteLemmas.{put_in}
use Rattle.text_record.proofs.lined.put_bytes.Goals as goal

pub returns-clause-items : goal.returns-clause-items
returns-clause-items c =
    let put : c.extend_from_slice.new.self.items ≡ c.truncate.new.self.items ++ c.args.other.now = search rules in
    put_in c.args.bytes.now.items c.rotate_left.new.self.items c.truncate.new.self.items c.extend_from_slice.new.self.items c.rotate_left-2.new.self.items
    c.args.other.now c.args.start c.args.end _ _ c.requires.order c.requires.within (omega (arith, c.len-2.ensures, c.args.bytes.now.ok.0)) (omega (arith, c.len.ensures, c.args.bytes.now.ok.0))
    c.rotate_left.ensures.items c.truncate.ensures.items put c.rotate_left-2.ensures.items
