-- Which copies can stay: choices, as facts and as a list in the plan's order.
use Rattle.std.specs.Prelude.{◌≡◌, ℕ, ◌<◌, ◌≤◌, Bool, true, false, not, ◌&&◌, ◌||◌, List, [], ◌∷◌, ◌++◌, map, length, count_by, filter, ◌==◌, ◌≢◌, nat_eq, nat_le, slice_index, slice_index_or}
use Rattle.std.specs.List.{ContainsAt as Has}
use Rattle.site.specs.Site.{Site, keeps, node_rack}
use Rattle.choices.specs.Sums.{count_to}

-- the nodes that hold a block's copies, in the writer's order
abbrev pub Copies : Type 0
Copies = List ℕ

abbrev pub has : ℕ → List ℕ → Bool
has v [] = false
has v (w ∷ ws) = v == w || has v ws

-- one node from each block's list: all marked yes, all different, at most c in any rack
pub record Choice (s : Site) (c : ℕ) (bs : List Copies) (vs : List ℕ) : Type 0 where
  pub long : length vs ≡ length bs
  pub listed : (i : ℕ) → i < length bs → has (slice_index vs i) (slice_index_or bs i []) ≡ true
  pub kept : (i : ℕ) → i < length bs → keeps s (slice_index vs i) ≡ true
  pub differ : (i j : ℕ) → i < length bs → j < length bs → slice_index vs i ≡ slice_index vs j → i ≡ j
  pub spread : (r : ℕ) → count_to (length bs) (λ i. nat_eq (node_rack s (slice_index vs i)) r) ≤ c

-- v stands before w in a list
abbrev pub Before : List ℕ → ℕ → ℕ → Type 0
Before b v w = (i j : ℕ) × (i < j) × (j < length b) × (slice_index b i ≡ v) × (slice_index b j ≡ w)

-- the first choice of all: against any other, the first block where they differ has its node earlier in its list
pub record First (s : Site) (c : ℕ) (bs : List Copies) (vs : List ℕ) : Type 0 where
  pub choice : Choice s c bs vs
  pub earliest : (us : List ℕ) → Choice s c bs us → (us ≢ vs)
      → (i : ℕ) × (i < length bs) × ((j : ℕ) → j < i → slice_index us j ≡ slice_index vs j) × Before (slice_index_or bs i []) (slice_index vs i) (slice_index us i)

-- The same as a list in the plan's order. Its head is the first choice, and it is empty where there is none.

abbrev pub every : {A : Type 0} → (A → Bool) → List A → Bool
every f [] = true
every f (x ∷ xs) = f x && every f xs

-- whether no node stands twice
abbrev pub apart : List ℕ → Bool
apart [] = true
apart (v ∷ vs) = not (has v vs) && apart vs

-- how many of some nodes lie in the rack of v
abbrev pub beside : Site → ℕ → List ℕ → ℕ
beside s v vs = count_by (λ w. nat_eq (node_rack s w) (node_rack s v)) vs

abbrev pub fits : Site → ℕ → List ℕ → Bool
fits s c vs = every (keeps s) vs && (apart vs && every (λ v. nat_le (beside s v vs) c) vs)

abbrev pub joined : (ℕ → List (List ℕ)) → List ℕ → List (List ℕ)
joined f [] = []
joined f (v ∷ vs) = f v ++ joined f vs

-- one node from each list, in every way, the earlier place of the earliest list first
abbrev pub picks : List Copies → List (List ℕ)
picks [] = [] ∷ []
picks (b ∷ bs) = joined (λ v. map (λ vs. v ∷ vs) (picks bs)) b

abbrev pub choices : Site → ℕ → List Copies → List (List ℕ)
choices s c bs = filter (fits s c) (picks bs)

-- it holds the choices and nothing else
abbrev pub ChoicesExact : Type 0
ChoicesExact = (s : Site) (c : ℕ) (bs : List Copies) (vs : List ℕ)
    → (Has (choices s c bs) vs → Choice s c bs vs) × (Choice s c bs vs → Has (choices s c bs) vs)

-- and its head is the first, where no list names a node twice
abbrev pub HeadFirst : Type 0
HeadFirst = (s : Site) (c : ℕ) (bs : List Copies) (vs : List ℕ) (more : List (List ℕ))
    → ((b : List ℕ) → Has bs b → apart b ≡ true) → choices s c bs ≡ vs ∷ more → First s c bs vs
