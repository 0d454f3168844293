use Rattle.text.proofs.TextLaws.{wrote-more}
use Rattle.sheet.proofs.faults.FaultLinePut.put.Goals as goal

pub returns-clause-wrote : goal.returns-clause-wrote
returns-clause-wrote c =
    wrote-more _ _ c.put.ensures.wrote (wrote-more _ _ c.put-2.ensures (wrote-more _ _ c.put-3.ensures.wrote
    (wrote-more _ _ c.put-4.ensures (wrote-more _ _ c.put-5.ensures.wrote c.put-6.ensures))))
