-- The steps of the search's two loops: over the blocks that can give way to x at v, and over the nodes of x.
use Rattle.std.proofs.Common.{◌≡◌, ℕ, ◌+◌, ◌^◌, ◌<◌, ◌≤◌, Bool, true, false, ◌⊎◌, sym, refl, subst, inl, inr, arith}
use lib.Bits.{bit_or, or_lt, or_zero_l}
use Rattle.std.proofs.lemmas.Bool.{cases_eq, cases_lt, cases_Bool, eqb-true, eq-eqb, both_ways, or_cases, or_left, or_right, or_from, ne_eqb}
use Rattle.std.proofs.lemmas.Nat.{pow_below}
use Rattle.site.specs.Words.{member}
use Rattle.choices.specs.Search.{Sized, Crowded, Complete, Partial, Moved, Open, Shut, Way, Covered, Done, Subset, unseen, Grown, Failed, Blocked, Ready, Trying, Passing}
use Rattle.choices.proofs.Words.{member-or, member-one, unseen-mark}
use Rattle.choices.proofs.Sets as sets

-- the set of x alone, with which the search for a place of x begins
pub alone-own : (x m : ℕ) → m ≡ bit_or 0 (2 ^ x) → member m x ≡ true
alone-own x m e = rw (e, member-one) (eq-eqb x x refl)

pub alone-only : (x m : ℕ) → m ≡ bit_or 0 (2 ^ x) → (k : ℕ) → member m k ≡ true → k ≡ x
alone-only x m e k h = eqb-true k x (rw (e, member-one) at h)

pub alone-within : (n x m : ℕ) → x < n → m ≡ bit_or 0 (2 ^ x) → m < 2 ^ n
alone-within n x m l e = rw (e, or_zero_l) (pow_below x n l)

-- marking y leaves fewer unseen
pub marks : (n w y m : ℕ) → y < n → m ≡ bit_or w (2 ^ y) → member w y ≡ false → unseen n m < unseen n w
marks n w y m l e h = rw e (unseen-mark n w y l h)

module _ (n N R c : ℕ) (rack : ℕ → ℕ) (U : ℕ → ℕ → Bool) where
  pub grown-none : (w : ℕ) → Grown n N R c rack U w w
  grown-none w = record { more = λ k m. m; within = λ l. l; forced = λ T t m. m }

  pub grown-more : (w₀ w w' : ℕ) → Grown n N R c rack U w₀ w → Grown n N R c rack U w w' → Grown n N R c rack U w₀ w'
  grown-more w₀ w w' g h = record {
    more = λ k m. h.more k (g.more k m);
    within = λ l. h.within (g.within l);
    forced = λ T t m. h.forced T t (g.forced T t m);
  }

  module _ (a : ℕ → ℕ) (x : ℕ) where
    module _ (v : ℕ) where
      pub trying-none : (w : ℕ) → Trying n N R c rack U a x v w w 0
      trying-none w = record {
        grown = grown-none w;
        new = λ z _ m n. absurd (both_ways _ n m);
        passed = λ k l. absurd (omega arith);
      }

      -- none from y on and below y' is tried
      pub trying-on : (w₀ w y y' : ℕ) → Trying n N R c rack U a x v w₀ w y
          → ((k : ℕ) → y ≤ k → k < y' → (k ≡ x) ⊎ ((member w k ≡ true) ⊎ (Way n rack a x k v → ⊥))) → Trying n N R c rack U a x v w₀ w y'
      trying-on w₀ w y y' t why = record {
        grown = t.grown;
        new = t.new;
        passed = λ k l ne way.
            elim (cases_lt k y) [
              | inl h ↦ t.passed k h ne way
              | inr h ↦ elim (why k h l) [
                | inl e ↦ absurd (ne e)
                | inr f ↦ elim f [ inl m ↦ m | inr no' ↦ absurd (no' way) ]
              ]
            ];
      }

      -- y is not tried
      pub trying-skip : (w₀ w y : ℕ) → Trying n N R c rack U a x v w₀ w y → (y ≡ x) ⊎ ((member w y ≡ true) ⊎ (Way n rack a x y v → ⊥))
          → Trying n N R c rack U a x v w₀ w (y + 1)
      trying-skip w₀ w y t why =
          trying-on w₀ w y (y + 1) t (λ k g l. let e : y ≡ k = omega arith in subst (λ j. (j ≡ x) ⊎ ((member w j ≡ true) ⊎ (Way n rack a x j v → ⊥))) e why)

      -- y is tried, in vain
      pub trying-more : Sized N R rack U → Partial n c rack U a x → U x v ≡ true → (a' : ℕ → ℕ) → Moved a x v a'
          → (w₀ w y w' : ℕ) → Trying n N R c rack U a x v w₀ w y
          → member w₀ x ≡ true → y < n → (y ≡ x → ⊥) → member w y ≡ false → Way n rack a x y v
          → Failed n N R c rack U a' y (bit_or w (2 ^ y)) w' → Trying n N R c rack U a x v w₀ w' (y + 1)
      trying-more s p u a' m' w₀ w y w' t own l ne no' way f = record {
        grown = record {
          more = λ k m. step k (t.grown.more k m);
          within = λ h. f.grown.within (or_lt n w (2 ^ y) (t.grown.within h) (pow_below y n l));
          forced = λ T crowded sub.
              f.grown.forced T crowded
              (λ k m.
              elim (or_cases (member w k) _ (rw member-or at m)) [
                | inl g ↦ t.grown.forced T crowded sub k g
                | inr g ↦
                    rw (eqb-true k y g)
                    (sets.forced-out n N R c rack U s a' y (sets.swapped n c rack U a x v a' m' p u y ne l way) T crowded)
              ]);
        };
        new = λ z k m n' q g.
            elim (cases_Bool (member w z)) [
              | inl d ↦
                  elim (t.new z k d n' q g) [
                    | inl h ↦ inl (sets.covered_more n c rack a x (member w) (member w') q step h)
                    | inr h ↦ inr h
                  ]
              | inr d ↦
                  sets.back n c rack U a x v a' m' p u y ne l way (member w') (step x (t.grown.more x own)) at_y q (after z k m d q g)
            ];
        passed = λ k h d e. elim (cases_eq k y) [ inl g ↦ rw g at_y | inr g ↦ step k (t.passed k (omega arith) d e) ];
      }
        where
          step : Subset w (member w')
          step k m = f.grown.more k (rw member-or (or_left _ _ m))

          at_y : member w' y ≡ true
          at_y = f.grown.more y (rw member-or (or_right (member w y) _ (eq-eqb y y refl)))

          after : (z : ℕ) → z < n → member w' z ≡ true → member w z ≡ false → Done n c rack U a' y (member w') z
          after z k m d =
              elim (cases_eq z y) [
                | inl e ↦ rw e f.own
                | inr e ↦ f.new z k m (rw member-or (or_from _ _ d (ne_eqb z y e)))
              ]

      -- all are tried
      pub trying-all : (w₀ w y : ℕ) → Trying n N R c rack U a x v w₀ w y → n ≤ y → Shut n c rack a x v → Blocked n N R c rack U a x v w₀ w
      trying-all w₀ w y t all shut =
          let own : Covered n c rack a x (member w) v = sets.closed n c rack a x (member w) v shut (λ k l. t.passed k (omega arith)) in
          record {
            grown = t.grown;
            own = own;
            new = λ z l m n' q g. elim (t.new z l m n' q g) [ inl h ↦ h | inr h ↦ rw h own ];
          }

    module _ (f : ℕ → ℕ) where
      pub passing-none : (w : ℕ) → Passing n N R c rack U a x f w w 0
      passing-none w = record {
        grown = grown-none w;
        new = λ z _ m n. absurd (both_ways _ n m);
        passed = λ k l. absurd (omega arith);
      }

      -- x cannot use the node
      pub passing-skip : (w₀ w i : ℕ) → Passing n N R c rack U a x f w₀ w i → U x (f i) ≡ false → Passing n N R c rack U a x f w₀ w (i + 1)
      passing-skip w₀ w i t no' = record {
        grown = t.grown;
        new = t.new;
        passed = λ k l m.
            elim (cases_eq k i) [ inl e ↦ absurd (both_ways _ no' (rw e at m)) | inr e ↦ t.passed k (omega arith) m ];
      }

      -- x tried the node, in vain
      pub passing-more : (w₀ w w' i : ℕ) → Passing n N R c rack U a x f w₀ w i → Blocked n N R c rack U a x (f i) w w'
          → Passing n N R c rack U a x f w₀ w' (i + 1)
      passing-more w₀ w w' i t b = record {
        grown = grown-more w₀ w w' t.grown b.grown;
        new = λ z l m n'.
            elim (cases_Bool (member w z)) [
              | inl d ↦ λ q g. sets.covered_more n c rack a x (member w) (member w') q b.grown.more (t.new z l d n' q g)
              | inr d ↦ b.new z l m d
            ];
        passed = λ k l m.
            elim (cases_eq k i) [
              | inl e ↦ rw e b.own
              | inr e ↦ sets.covered_more n c rack a x (member w) (member w') (f k) b.grown.more (t.passed k (omega arith) m)
            ];
      }

      -- every node that x can use was tried
      pub passing-all : (w₀ w i : ℕ) → Passing n N R c rack U a x f w₀ w i → ((v : ℕ) → U x v ≡ true → (k : ℕ) × (k < i) × (f k ≡ v))
          → Failed n N R c rack U a x w₀ w
      passing-all w₀ w i t every = record {
        grown = t.grown;
        new = t.new;
        own = λ v g. let h = every v g in rw (← h.2) (t.passed h.0 h.1 (rw h.2 g));
      }

    -- The same from what the search begins with. a₁ is the placement as the loop has it, which is a again.
    -- the call for the block y that gives way
    pub ready-next : (v w₀ : ℕ) → Ready n N R c rack U a x w₀ → U x v ≡ true → (a₁ a' : ℕ → ℕ) → a₁ ≡ a → Moved a₁ x v a'
        → (w y m : ℕ) → y < n → (y ≡ x → ⊥) → Way n rack a₁ x y v → m ≡ bit_or w (2 ^ y) → Ready n N R c rack U a' y m
    ready-next v w₀ r u a₁ a' e m' w y m l ne way g = record {
      sized = r.sized;
      partial = sets.swapped n c rack U a₁ x v a' m' (subst (λ b. Partial n c rack U b x) (sym e) r.partial) u y ne l way;
      own = rw (g, member-or) (or_right (member w y) _ (eq-eqb y y refl));
    }

    pub skipped : (v w₀ : ℕ) (a₁ : ℕ → ℕ) → a₁ ≡ a → (w y : ℕ) → Trying n N R c rack U a x v w₀ w y
        → (y ≡ x) ⊎ ((member w y ≡ true) ⊎ (Way n rack a₁ x y v → ⊥)) → Trying n N R c rack U a x v w₀ w (y + 1)
    skipped v w₀ a₁ e w y t why =
        trying-skip v w₀ w y t (subst (λ b. (y ≡ x) ⊎ ((member w y ≡ true) ⊎ (Way n rack b x y v → ⊥))) e why)

    pub retried : (v w₀ : ℕ) → Ready n N R c rack U a x w₀ → U x v ≡ true → (a₁ a' : ℕ → ℕ) → a₁ ≡ a → Moved a₁ x v a'
        → (w y m w' : ℕ) → Trying n N R c rack U a x v w₀ w y → y < n → (y ≡ x → ⊥) → member w y ≡ false → Way n rack a₁ x y v
        → m ≡ bit_or w (2 ^ y) → Failed n N R c rack U a' y m w' → Trying n N R c rack U a x v w₀ w' (y + 1)
    retried v w₀ r u a₁ a' e m' w y m w' t l ne no' way g f =
        trying-more v r.sized r.partial u a' (subst (λ b. Moved b x v a') e m') w₀ w y w' t r.own l ne no'
        (subst (λ b. Way n rack b x y v) e way) (subst (λ z. Failed n N R c rack U a' y z w') g f)

    -- the call for one node of x
    pub ready-same : (w₀ w : ℕ) → Ready n N R c rack U a x w₀ → (a₁ : ℕ → ℕ) → a₁ ≡ a → Grown n N R c rack U w₀ w → Ready n N R c rack U a₁ x w
    ready-same w₀ w r a₁ e g = record {
      sized = r.sized;
      partial = subst (λ b. Partial n c rack U b x) (sym e) r.partial;
      own = g.more x r.own;
    }

    pub passed_on : (f : ℕ → ℕ) (w₀ w w' i : ℕ) (a₁ : ℕ → ℕ) → a₁ ≡ a → Passing n N R c rack U a x f w₀ w i
        → Blocked n N R c rack U a₁ x (f i) w w' → Passing n N R c rack U a x f w₀ w' (i + 1)
    passed_on f w₀ w w' i a₁ e t b = passing-more f w₀ w w' i t (subst (λ d. Blocked n N R c rack U d x (f i) w w') e b)

    pub opened : (v w : ℕ) → Ready n N R c rack U a x w → U x v ≡ true → (a₁ a' : ℕ → ℕ) → a₁ ≡ a → Moved a₁ x v a'
        → Open n c rack a₁ x v → Complete n c rack U a'
    opened v w r u a₁ a' e m' o = sets.took n c rack U a₁ x v a' m' (subst (λ b. Partial n c rack U b x) (sym e) r.partial) u o

  -- a failed search from x alone: its set is within the blocks, crowded, and in every crowded set
  module _ (a : ℕ → ℕ) (x m w : ℕ) (r : Ready n N R c rack U a x m) (e : m ≡ bit_or 0 (2 ^ x)) (f : Failed n N R c rack U a x m w) where
    pub found_within : w < 2 ^ n
    found_within = f.grown.within (alone-within n x m r.partial.inside e)

    pub found-crowded : Crowded n N R c rack U (member w)
    found-crowded = sets.found n N R c rack U r.sized a x m w r.partial f (alone-only x m e) r.own

    pub found-least : (T : ℕ → Bool) → Crowded n N R c rack U T → Subset w T
    found-least = sets.least n N R c rack U r.sized a x m w r.partial f (alone-only x m e)

  pub ready-first : (a : ℕ → ℕ) (x m : ℕ) → Sized N R rack U → Partial n c rack U a x → m ≡ bit_or 0 (2 ^ x) → Ready n N R c rack U a x m
  ready-first a x m s p e = record { sized = s; partial = p; own = alone-own x m e }
