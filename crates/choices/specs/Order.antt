-- The first choice: the head of the list of choices, and the only one.
use Rattle.std.specs.Prelude.{◌≡◌, ℕ, ◌<◌, true, List, [], ◌∷◌, map, length, filter, slice_index, slice_index_or, slice_set}
use Rattle.std.specs.List.{ContainsAt as Has}
use Rattle.site.specs.Site.{Site, keeps}
use Rattle.choices.specs.Choice.{Copies, Choice, First, apart, choices}
use Rattle.choices.specs.Tight.{reach}
use Rattle.choices.specs.Plan.{first_of}

-- the list is empty exactly where there is no choice
abbrev pub EmptyExact : Type 0
EmptyExact = (s : Site) (c : ℕ) (bs : List Copies)
    → (choices s c bs ≡ [] → (vs : List ℕ) → Choice s c bs vs → ⊥) × (((vs : List ℕ) → Choice s c bs vs → ⊥) → choices s c bs ≡ [])

-- where no list names a node twice, there is at most one first choice
abbrev pub FirstUnique : Type 0
FirstUnique = (s : Site) (c : ℕ) (bs : List Copies) (vs us : List ℕ)
    → ((b : List ℕ) → Has bs b → apart b ≡ true) → First s c bs vs → First s c bs us → us ≡ vs

-- and it is the head of the list
abbrev pub FirstHead : Type 0
FirstHead = (s : Site) (c : ℕ) (bs : List Copies) (vs : List ℕ)
    → ((b : List ℕ) → Has bs b → apart b ≡ true) → First s c bs vs → (more : List (List ℕ)) × (choices s c bs ≡ vs ∷ more)

-- no other node than the yes nodes counts
abbrev pub YesEnough : Type 0
YesEnough = (s : Site) (c : ℕ) (bs : List Copies)
    → (choices s c (map (filter (keeps s)) bs) ≡ choices s c bs) × ((w : ℕ) → reach s c (map (filter (keeps s)) bs) w ≡ reach s c bs w)

-- How the first choice is found with no list of choices at hand: block after block, the list is narrowed to its earliest node that
-- leaves a choice for all.

-- the lists before place i have one node each
abbrev pub Narrowed : List Copies → ℕ → Type 0
Narrowed bs i = (k : ℕ) → k < i → length (slice_index_or bs k []) ≡ 1

-- list i with its node at place j alone
abbrev pub narrow : List Copies → ℕ → ℕ → List Copies
narrow bs i j = slice_set bs i (slice_index (slice_index_or bs i []) j ∷ [])

-- ds are the lists bs narrowed before place i, and vs is a choice of them
pub record Narrowing (s : Site) (c : ℕ) (bs ds : List Copies) (i : ℕ) (vs : List ℕ) : Type 0 where
  pub long : length ds ≡ length bs
  pub narrowed : Narrowed ds i
  pub first : first_of (choices s c ds) ≡ first_of (choices s c bs)
  pub choice : Choice s c ds vs

-- a step keeps the first choice
abbrev pub NarrowKeeps : Type 0
NarrowKeeps = (s : Site) (c : ℕ) (bs : List Copies) (i j : ℕ) → i < length bs → Narrowed bs i → j < length (slice_index_or bs i [])
    → ((k : ℕ) → k < j → (vs : List ℕ) → Choice s c (narrow bs i k) vs → ⊥) → (us : List ℕ) → Choice s c (narrow bs i j) us
    → first_of (choices s c (narrow bs i j)) ≡ first_of (choices s c bs)

-- and once every list has one node, a choice is the first
abbrev pub NarrowEnds : Type 0
NarrowEnds = (s : Site) (c : ℕ) (bs : List Copies) (vs : List ℕ) → Narrowed bs (length bs) → Choice s c bs vs → first_of (choices s c bs) ≡ vs
