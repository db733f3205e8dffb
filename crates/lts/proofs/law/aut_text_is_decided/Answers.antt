use Rattle.lts.proofs.Decided as texts
use Rattle.lts.proofs.law.aut_text_is_decided.Goals as goal

pub returns : goal.returns
returns c = texts.decided
