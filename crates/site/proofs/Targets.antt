-- Target maps over one another, and the one whose targets are all racks.
use Rattle.std.proofs.Common.{◌≡◌, ℕ, zero, suc, ◌/◌, ◌%◌, ◌^◌, ◌<◌, Bool, true, false, ◌&&◌, eqb, [], ◌∷◌, sym, refl, ap, ◌∙◌, ap₂, inl, inr, arith}
use lib.Bits.{bit_and, and_shr, and_mod}
use Rattle.std.specs.List.{AllByRecursion}
use Rattle.std.proofs.lemmas.Nat.{mod_below}
use Rattle.std.proofs.lemmas.Bool.{cases_eq, and_parts}
use Rattle.site.specs.declared.Mark.{Mark}
use Rattle.site.specs.Words.{member}
use Rattle.site.specs.Site.{Site}
use Rattle.site.specs.Maps.{marked, targeted, target}

-- bit i of two words and-ed
pub member-and : (a b i : ℕ) → member (bit_and a b) i ≡ (member a i && member b i)
member-and a b i =
    let e : bit_and a b / 2 ^ i % 2 ≡ bit_and (a / 2 ^ i % 2) (b / 2 ^ i % 2) = ap (λ x. x % 2) (and_shr a b i) ∙ and_mod (a / 2 ^ i) (b / 2 ^ i) 1 in
    ap (λ x. eqb x 1) e ∙ bit (a / 2 ^ i % 2) (b / 2 ^ i % 2) (mod_below (a / 2 ^ i) 2 (omega arith)) (mod_below (b / 2 ^ i) 2 (omega arith))
  where
    bit : (x y : ℕ) → x < 2 → y < 2 → eqb (bit_and x y) 1 ≡ (eqb x 1 && eqb y 1)
    bit zero y h k = refl
    bit (suc zero) zero h k = refl
    bit (suc zero) (suc zero) h k = refl
    bit (suc zero) (suc (suc y)) h k = absurd (omega arith)
    bit (suc (suc x)) y h k = absurd (omega arith)

marked-twice : (m : Mark) (x y : Bool) → marked (marked m x) y ≡ marked m (x && y)
marked-twice m true y = refl
marked-twice m false true = refl
marked-twice m false false = refl

pub target-twice : (a b : ℕ) (s : Site) → target b (target a s) ≡ target (bit_and a b) s
target-twice a b [] = refl
target-twice a b (p ∷ s) =
    let e : targeted b (targeted a p) ≡ targeted (bit_and a b) p =
    ap (λ m. (p.0, m)) (marked-twice p.1 (member a p.0.0) (member b p.0.0) ∙ ap (marked p.1) (sym (member-and a b p.0.0))) in
    ap₂ (λ q qs. q ∷ qs) e (target-twice a b s)

-- one test over all numbers below n, computed
all_to : ℕ → (ℕ → Bool) → Bool
all_to zero f = true
all_to (suc n) f = f n && all_to n f

all-at : (n : ℕ) (f : ℕ → Bool) → all_to n f ≡ true → (k : ℕ) → k < n → f k ≡ true
unfolding all_to
all-at zero f t k h = absurd (omega arith)
all-at (suc n) f t k h =
    let p = and_parts (f n) _ t in
    elim (cases_eq k n) [ inl e ↦ rw e p.0 | inr e ↦ all-at n f p.1 k (omega arith) ]

-- every bit of the largest word of 32 bits is 1
pub member-all : (i : ℕ) → i < 32 → member 4294967295 i ≡ true
unfolding all_to
member-all i h = all-at 32 (member 4294967295) refl i h

pub target-all : (s : Site) → AllByRecursion (λ p. p.0.0 < 32) s → target 4294967295 s ≡ s
target-all [] h = refl
target-all (p ∷ s) h =
    ap₂ (λ q qs. q ∷ qs) (ap (λ b. (p.0, marked p.1 b)) (member-all p.0.0 h.0)) (target-all s h.1)
