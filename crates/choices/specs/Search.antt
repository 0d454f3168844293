-- What the search for a choice keeps true, and what it has shown when it fails.
-- Blocks are the numbers below n, nodes those below N, racks those below R, and at most c blocks go into a rack.
-- `U i v` says that block i can use node v, and `a i` is the node at which block i is placed.
use Rattle.std.specs.Prelude.{◌≡◌, ℕ, ◌^◌, ◌<◌, ◌≤◌, min, Bool, true, false, not, ◌&&◌, ◌⊎◌, ◌==◌, ◌≢◌}
use Rattle.site.specs.Words.{member}
use Rattle.choices.specs.Sums.{sum_to, count_to, any_to}

-- what is used is a node in a rack
pub record Sized (N R : ℕ) (rack : ℕ → ℕ) (U : ℕ → ℕ → Bool) : Type 0 where
  pub node : (i v : ℕ) → U i v ≡ true → v < N
  pub racked : (i v : ℕ) → U i v ≡ true → rack v < R

-- whether v is a node of rack r that some block of the set S can use
abbrev pub useful : ℕ → (ℕ → ℕ) → (ℕ → ℕ → Bool) → (ℕ → Bool) → ℕ → ℕ → Bool
useful n rack U S r v = rack v == r && any_to n (λ i. S i && U i v)

-- how many blocks the nodes that S can use can keep
abbrev pub reach_of : ℕ → ℕ → ℕ → ℕ → (ℕ → ℕ) → (ℕ → ℕ → Bool) → (ℕ → Bool) → ℕ
reach_of n N R c rack U S = sum_to R (λ r. min c (count_to N (useful n rack U S r)))

-- a set of blocks whose reach is below its size
abbrev pub Crowded : ℕ → ℕ → ℕ → ℕ → (ℕ → ℕ) → (ℕ → ℕ → Bool) → (ℕ → Bool) → Type 0
Crowded n N R c rack U S = reach_of n N R c rack U S < count_to n S

-- each block of the set D is placed at a node that it can use, all different, at most c in a rack
pub record Placed (n c : ℕ) (rack : ℕ → ℕ) (U : ℕ → ℕ → Bool) (D : ℕ → Bool) (a : ℕ → ℕ) : Type 0 where
  pub usable : (i : ℕ) → i < n → D i ≡ true → U i (a i) ≡ true
  pub distinct : (i j : ℕ) → i < n → j < n → D i ≡ true → D j ≡ true → a i ≡ a j → i ≡ j
  pub spread : (r : ℕ) → count_to n (λ i. D i && rack (a i) == r) ≤ c

-- every block is placed
abbrev pub Complete : ℕ → ℕ → (ℕ → ℕ) → (ℕ → ℕ → Bool) → (ℕ → ℕ) → Type 0
Complete n c rack U a = Placed n c rack U (λ _. true) a

-- all blocks but x
abbrev pub but : ℕ → ℕ → Bool
but x k = not (k == x)

-- every block but x is placed
pub record Partial (n c : ℕ) (rack : ℕ → ℕ) (U : ℕ → ℕ → Bool) (a : ℕ → ℕ) (x : ℕ) : Type 0 where
  pub inside : x < n
  pub placed : Placed n c rack U (but x) a

-- block x goes to v, and the others stay
pub record Moved (a : ℕ → ℕ) (x v : ℕ) (a' : ℕ → ℕ) : Type 0 where
  pub here : a' x ≡ v
  pub there : (k : ℕ) → (k ≢ x) → a' k ≡ a k

-- no block but x holds v
abbrev pub Free : ℕ → (ℕ → ℕ) → ℕ → ℕ → Type 0
Free n a x v = (k : ℕ) → k < n → (k ≢ x) → a k ≢ v

-- a block other than x holds v
abbrev pub Held : ℕ → (ℕ → ℕ) → ℕ → ℕ → Type 0
Held n a x v = (k : ℕ) × (k < n) × (k ≢ x) × (a k ≡ v)

-- how many blocks but x lie in rack r
abbrev pub in_rack : ℕ → (ℕ → ℕ) → (ℕ → ℕ) → ℕ → ℕ → ℕ
in_rack n rack a x r = count_to n (λ k. but x k && rack (a k) == r)

-- v is open to x: no other block has to move
abbrev pub Open : ℕ → ℕ → (ℕ → ℕ) → (ℕ → ℕ) → ℕ → ℕ → Type 0
Open n c rack a x v = Free n a x v × (in_rack n rack a x (rack v) < c)

-- v is not open to x
abbrev pub Shut : ℕ → ℕ → (ℕ → ℕ) → (ℕ → ℕ) → ℕ → ℕ → Type 0
Shut n c rack a x v = Held n a x v ⊎ (Free n a x v × (c ≤ in_rack n rack a x (rack v)))

-- x can take v once y has given up its node
abbrev pub Way : ℕ → (ℕ → ℕ) → (ℕ → ℕ) → ℕ → ℕ → ℕ → Type 0
Way n rack a x y v = (a y ≡ v) ⊎ (Free n a x v × (rack (a y) ≡ rack v))

-- how many blocks of the set S, but x, lie in rack r
abbrev pub share : ℕ → (ℕ → ℕ) → (ℕ → ℕ) → ℕ → (ℕ → Bool) → ℕ → ℕ
share n rack a x S r = count_to n (λ k. (S k && but x k) && rack (a k) == r)

-- v is no way out of the set S: a block of S holds it, or blocks of S fill its rack
abbrev pub Covered : ℕ → ℕ → (ℕ → ℕ) → (ℕ → ℕ) → ℕ → (ℕ → Bool) → ℕ → Type 0
Covered n c rack a x S v =
    ((k : ℕ) × (k < n) × (S k ≡ true) × (but x k ≡ true) × (a k ≡ v)) ⊎ (c ≤ share n rack a x S (rack v))

-- no node of block z is a way out of the set S
abbrev pub Done : ℕ → ℕ → (ℕ → ℕ) → (ℕ → ℕ → Bool) → (ℕ → ℕ) → ℕ → (ℕ → Bool) → ℕ → Type 0
Done n c rack U a x S z = (v : ℕ) → U z v ≡ true → Covered n c rack a x S v

-- The sets that the search keeps are words. Those of the set w are in S:
abbrev pub Subset : ℕ → (ℕ → Bool) → Type 0
Subset w S = (k : ℕ) → member w k ≡ true → S k ≡ true

-- how many blocks are not in the set w
unfoldable pub unseen : ℕ → ℕ → ℕ
unseen n w = count_to n (λ k. not (member w k))

-- the set w grew to w', and every crowded set with w in it has w' in it
pub record Grown (n N R c : ℕ) (rack : ℕ → ℕ) (U : ℕ → ℕ → Bool) (w w' : ℕ) : Type 0 where
  pub more : Subset w (member w')
  pub within : w < 2 ^ n → w' < 2 ^ n
  pub forced : (T : ℕ → Bool) → Crowded n N R c rack U T → Subset w T → Subset w' T

-- from the set w, the search for a place of x grew to w' and found no way out
pub record Failed (n N R c : ℕ) (rack : ℕ → ℕ) (U : ℕ → ℕ → Bool) (a : ℕ → ℕ) (x w w' : ℕ) : Type 0 where
  pub grown : Grown n N R c rack U w w'
  pub own : Done n c rack U a x (member w') x
  pub new : (z : ℕ) → z < n → member w' z ≡ true → member w z ≡ false → Done n c rack U a x (member w') z

-- the same for one node v of x
pub record Blocked (n N R c : ℕ) (rack : ℕ → ℕ) (U : ℕ → ℕ → Bool) (a : ℕ → ℕ) (x v w w' : ℕ) : Type 0 where
  pub grown : Grown n N R c rack U w w'
  pub own : Covered n c rack a x (member w') v
  pub new : (z : ℕ) → z < n → member w' z ≡ true → member w z ≡ false → Done n c rack U a x (member w') z

-- what the search for a place of x begins with: x is in the set w
pub record Ready (n N R c : ℕ) (rack : ℕ → ℕ) (U : ℕ → ℕ → Bool) (a : ℕ → ℕ) (x w : ℕ) : Type 0 where
  pub sized : Sized N R rack U
  pub partial : Partial n c rack U a x
  pub own : member w x ≡ true

-- at the blocks below y: those that can give way to x at v are in the set w, which began as w₀
pub record Trying (n N R c : ℕ) (rack : ℕ → ℕ) (U : ℕ → ℕ → Bool) (a : ℕ → ℕ) (x v w₀ w y : ℕ) : Type 0 where
  pub grown : Grown n N R c rack U w₀ w
  pub new : (z : ℕ) → z < n → member w z ≡ true → member w₀ z ≡ false → (u : ℕ) → U z u ≡ true → Covered n c rack a x (member w) u ⊎ (u ≡ v)
  pub passed : (k : ℕ) → k < y → (k ≢ x) → Way n rack a x k v → member w k ≡ true

-- at the first i of the nodes f 0, f 1, .. at which x is tried
pub record Passing (n N R c : ℕ) (rack : ℕ → ℕ) (U : ℕ → ℕ → Bool) (a : ℕ → ℕ) (x : ℕ) (f : ℕ → ℕ) (w₀ w i : ℕ) : Type 0 where
  pub grown : Grown n N R c rack U w₀ w
  pub new : (z : ℕ) → z < n → member w z ≡ true → member w₀ z ≡ false → Done n c rack U a x (member w) z
  pub passed : (k : ℕ) → k < i → U x (f k) ≡ true → Covered n c rack a x (member w) (f k)
