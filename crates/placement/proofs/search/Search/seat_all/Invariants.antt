use Rattle.std.proofs.Common.{◌≡◌, ℕ, Bool, None, length}
use Rattle.choices.specs.Search.{Sized}
use Rattle.placement.specs.Seats.{seat_of, Sits, Settled}
use Rattle.placement.proofs.search.Search.seat_all.Given as goal

abbrev pub invariant-loop-m : goal.invariant-loop-m
invariant-loop-m l =
    ((k : ℕ) → seat_of l.initial.sat.at k ≡ None) → (rack : ℕ → ℕ) (U : ℕ → ℕ → Bool) (N : ℕ) → Sized N 32 rack U → Sits rack U (length l.self.seats.now) l.self.seats.now → Settled rack U l.m l.self.c l.sat.at
