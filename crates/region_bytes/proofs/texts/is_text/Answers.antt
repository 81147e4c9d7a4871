use Rattle.region_bytes.proofs.Judged.{no_data, data_none}
use Rattle.region_bytes.proofs.texts.is_text.Goals as goal

pub returns-then-after-lt2 : goal.returns-then-after-lt2
returns-then-after-lt2 c = (
  λ t. no_data c.args.bounds c.args.after.now c.if-after-lt2.true (c.is_box_alone.ensures.0 t),
  λ t. c.is_box_alone.ensures.1 (data_none c.args.bounds c.args.after.now c.if-after-lt2.true t),
)
