use Rattle.std.proofs.lemmas.Result.{err_from_is_err_and}
use Rattle.placement.proofs.Seated.{none-sits, one_more, refused}
use Rattle.placement.proofs.search.Search.seat_all.Goals as goal

pub loop-m-init : goal.loop-m-init
loop-m-init c = λ e rack U N z s. none-sits rack U N _ _ _ z s _ e

pub loop-m-preserved : goal.loop-m-preserved
loop-m-preserved c = λ e rack U N z s.
    c.in_ok-extend.ensures rack U N _ (one_more rack U N _ _ _ z s _ _ c.loop-m-test.true (c.loop-m.invariant e rack U N z s))

pub returns-in_err-extend : goal.returns-in_err-extend
returns-in_err-extend c =
    let p = err_from_is_err_and c.from_residual.result c.from_residual.ensures.1 in
    λ e. rw (p.1, p.2) (λ rack U N z s.
    refused rack U N _ _ _ z s _ _ c.loop-m-test.true
    (c.in_err-extend.ensures.1 rack U N _ (one_more rack U N _ _ _ z s _ _ c.loop-m-test.true (c.loop-m.invariant e rack U N z s))))
