use Rattle.std.proofs.Common.{rules, ◌≡◌, length, ◌+◌, true, false, [], ◌∷◌, ◌++◌, drop, take, ◌-◌, refl, sym, ◌∙◌, arith, append-nil}
use Rattle.text_lines.specs.Lines.{goes_on}
use Rattle.text_lines.proofs.LineLemmas.{rest_all, one_more}
use Rattle.text_lines.proofs.lines.break_text.Goals as goal

pub loop-room-init : goal.loop-room-init
loop-room-init c = record {
  lines = rw c.clear.ensures.items (rest_all c.args.widths.now c.args.room c.args.text.now);
  within = omega arith;
  few = omega arith;
  capacity = omega arith;
}

pub loop-room-preserved : goal.loop-room-preserved
loop-room-preserved c =
    let text = c.args.text.now in
    let pushed : c.push.new.self.items ≡ c.loop-room.lines.items ++ record { start = c.loop-room.start; end = c.loop-room.start + c.line_length-bytes.result } ∷ [] = search rules in
    let on : true ≡ goes_on c.line_length-bytes.result (take (length text - c.loop-room.start) (drop c.loop-room.start text)) = search rules in
    record {
      lines = one_more c.args.widths.now c.args.room c.loop-room.start c.line_length-bytes.result text (take (length text - c.loop-room.start) (drop c.loop-room.start text)) true c.loop-room.lines.items c.push.new.self.items _ refl c.line_length-bytes.ensures.value on pushed c.loop-room.invariant.lines;
      within = search rules;
      few = search rules;
      capacity = search rules;
    }

pub returns-then-not-goes_on-clause-lines : goal.returns-then-not-goes_on-clause-lines
returns-then-not-goes_on-clause-lines c =
    let text = c.args.text.now in
    let pushed : c.push.new.self.items ≡ c.loop-room.lines.items ++ record { start = c.loop-room.start; end = c.loop-room.start + c.line_length-bytes.result } ∷ [] = search rules in
    let off : false ≡ goes_on c.line_length-bytes.result (take (length text - c.loop-room.start) (drop c.loop-room.start text)) = search rules in
    sym (append-nil c.push.new.self.items) ∙ one_more c.args.widths.now c.args.room c.loop-room.start c.line_length-bytes.result text (take (length text - c.loop-room.start) (drop c.loop-room.start text)) false c.loop-room.lines.items c.push.new.self.items _ refl c.line_length-bytes.ensures.value off pushed c.loop-room.invariant.lines
