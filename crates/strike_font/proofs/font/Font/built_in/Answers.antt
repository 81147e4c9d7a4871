use Rattle.std.proofs.Common.{◌≡◌, rules}
use Rattle.strike_font.specs.declared.built_in.TheConstants.{RECORD}
use Rattle.strike_font.proofs.RecordLemmas.{font_facts}
use Rattle.strike_font.proofs.BuiltInLemmas.{record_accepted, record_looks}
use Rattle.strike_font.proofs.font.Font.built_in.Goals as goal

pub invariant_of-result : goal.invariant_of-result
invariant_of-result c =
    let same : c.in_ok-bytes.bytes.items ≡ RECORD = search rules in
    rw same (font_facts RECORD record_accepted)

pub returns : goal.returns
returns c =
    let same : c.in_ok-bytes.bytes.items ≡ RECORD = search rules in
    rw same record_looks
