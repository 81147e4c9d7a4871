use Rattle.std.proofs.Common.{◌∙◌, sym}
use Rattle.window_mgr.proofs.RefusedForms as forms
use Rattle.window_mgr.proofs.forms.form_refusal.Goals as goal

pub returns-in-Err : goal.returns-in-Err
returns-in-Err g c desk e = rw c.in-Draw.is (forms.formal c.in-Draw.drawing desk c.in-Err.refusal c.in-Err.ensures (sym c.is_formal.ensures ∙ c.if-is_formal.true))

pub returns-in_default-judge : goal.returns-in_default-judge
returns-in_default-judge g c desk e = rw c.in-Draw.is (forms.waits c.in-Draw.drawing desk c.in-Err.refusal c.in-Err.ensures (sym c.is_formal.ensures ∙ c.if-is_formal.false))

pub returns-in-Err-judge : goal.returns-in-Err-judge
returns-in-Err-judge g c desk e = rw c.in-Region.is (forms.formal_region c.in-Region.region desk c.in-Err-judge.refusal c.in-Err-judge.ensures (sym c.is_formal-in-Err-judge-2.ensures ∙ c.if-is_formal-2.true))

pub returns-in_default-judge-2 : goal.returns-in_default-judge-2
returns-in_default-judge-2 g c desk e = rw c.in-Region.is (forms.region_waits c.in-Region.region desk c.in-Err-judge.refusal c.in-Err-judge.ensures (sym c.is_formal-in-Err-judge-2.ensures ∙ c.if-is_formal-2.false))
