use Rattle.std.proofs.Common.{rules, ◌≡◌, ◌<◌, ◌≤◌, length, sym, arith}
use borrow.Author.Tests.{tests}
use Rattle.std.proofs.lemmas.Iterator.{IsFirst-from_position, YieldsList-from_slice}
use Rattle.site.specs.Site.{Place}
use Rattle.site.specs.Maps.{listed}
use Rattle.site.specs.Limits.{window-few}
use Rattle.site.proofs.Places.{window-count}
use Rattle.site.proofs.listed.ListedMap.new.Goals as goal

count : (c : goal.After-unwrap_or) → length (listed c.args.entries.now) ≡ c.unwrap_or.result
count c =
    let f = IsFirst-from_position _ _ _ (λ (p : Place). 32 ≤ p.0.0) (λ (p : Place). p.0.0 < 32) c.position-len.ensures.ran (YieldsList-from_slice c.front-window.result.now cc) (λ x q k. search (rules, tests)) (λ x q k. search (rules, tests)) in
    rw c.unwrap_or.ensures (window-count 256 c.args.entries.now c.front-window.result.now c.position-len.result c.front-window.ensures f)

pub overflow_cast-result : goal.overflow_cast-result
overflow_cast-result c = omega (arith, count c, window-few 256 c.args.entries.now)

pub invariant_of-result : goal.invariant_of-result
invariant_of-result c = record { counted = sym (count c) }
