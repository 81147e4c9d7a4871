use Rattle.std.proofs.Common.{false}
use Rattle.text_mgr_tests.proofs.desk.Desk.answer.Goals as goal

pub returns-clause-whole : goal.returns-clause-whole
returns-clause-whole g c = (c.perform.ensures.step (λ p. false) (λ font q p. false) _ c.requires.whole c.requires.beside).0

pub returns-clause-beside : goal.returns-clause-beside
returns-clause-beside g c = (c.perform.ensures.step (λ p. false) (λ font q p. false) _ c.requires.whole c.requires.beside).1
