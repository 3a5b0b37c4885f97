-- Worlds at their start, and the disks that are handed out in the order of their nodes; for the clauses of what a world is made of and
-- what it leaves.
use Rattle.std.proofs.Common.{◌≡◌, inl, inr, ℕ, suc, zero, ◌+◌, ◌<◌, ◌^◌, false, List, [], ◌∷◌, ◌++◌, length, map, slice_get, Some, Result}
use Rattle.std.proofs.Common.{Ok, Err, refl, sym, ap, ◌∙◌, subst, ◌⊎◌, arith}
use Rattle.std.specs.List.{AllByRecursion}
use Rattle.std.specs.Result.{OnOk, is_err}
use Rattle.ba_world.specs.Mails.{mail_of}
use Rattle.ba_world.specs.declared.mails.Mail.{Mail}
use Rattle.ba_ports_memory.specs.DiskValue.{DiskValue, MediumValue}
use Rattle.ba_world_places.specs.Places.{Matches, disk_at}
use Rattle.ba_world_places.specs.declared.places.Place.{Place}
use Rattle.ba_world_places.specs.declared.places.Place.TheVariants as place
use Rattle.ba_world_play.proofs.Bases.{base_in_range}
use Rattle.ba_world_play.proofs.Posted.{start_posts}
use Rattle.ba_world_play.specs.Plays.{WorldOnDisks, disk_at_start, node_base, starting_play, world_at_start}
use Rattle.ba_world_play.specs.Shows.{numbers_from}
use Rattle.ba_world_runs.specs.Runs.{IsFirstWorld, node_at_start, starts}
use Rattle.ba_world_runs.specs.World.{WorldNode}
use Rattle.ba_world_runs.specs.World as runs
use Rattle.ba_world.specs.Worlds.{AreDisksOf, IsSetAs, IsStageOf, StageValue}
use Rattle.ba_world.specs.inside.Stages.{ArePlacesAtStart}

-- ---- disks

pub medium_is : (n : WorldNode) (disk : MediumValue) (at : Place) → Matches n disk at → (disk_at at).medium ≡ disk
medium_is n disk (place.Up node) matches = matches.place.medium
medium_is n disk (place.Down held known) matches = matches.place.medium

pub fed_is : (n : WorldNode) (disk : MediumValue) (at : Place) → Matches n disk at → (disk_at at).starved ≡ false
fed_is n disk (place.Up node) matches = matches.place.fed
fed_is n disk (place.Down held known) matches = matches.place.fed

-- the places of the nodes from this number on
abbrev MatchFrom : (ℕ → WorldNode) → (ℕ → MediumValue) → ℕ → List Place → Type 0
MatchFrom nodes disks first places =
    (k : ℕ) (at : Place) → slice_get places k ≡ Some at → Matches (nodes (k + first)) (disks (k + first)) at

later_match : (nodes : ℕ → WorldNode) (disks : ℕ → MediumValue) (first : ℕ) (at : Place) (places : List Place)
    → MatchFrom nodes disks first (at ∷ places) → MatchFrom nodes disks (first + 1) places
later_match nodes disks first at places each k there is =
    let same : suc k + first ≡ k + (first + 1) = omega arith in
    subst (λ (j : ℕ). Matches (nodes j) (disks j) there) same (each (suc k) there is)

first_match : (nodes : ℕ → WorldNode) (disks : ℕ → MediumValue) (first : ℕ) (at : Place) (places : List Place)
    → MatchFrom nodes disks first (at ∷ places) → Matches (nodes first) (disks first) at
first_match nodes disks first at places each =
    let same : 0 + first ≡ first = omega arith in
    subst (λ (j : ℕ). Matches (nodes j) (disks j) at) same (each 0 at refl)

mediums_from : (nodes : ℕ → WorldNode) (disks : ℕ → MediumValue) (first : ℕ) (places : List Place)
    → MatchFrom nodes disks first places
    → map (λ (d : DiskValue). d.medium) (map disk_at places) ≡ map disks (numbers_from first (length places))
mediums_from nodes disks first [] each = refl
mediums_from nodes disks first (at ∷ places) each =
    ap (λ (m : MediumValue). m ∷ map (λ (d : DiskValue). d.medium) (map disk_at places))
    (medium_is (nodes first) (disks first) at (first_match nodes disks first at places each))
    ∙ ap (λ (ms : List MediumValue). disks first ∷ ms)
    (mediums_from nodes disks (first + 1) places (later_match nodes disks first at places each))

fed_from : (nodes : ℕ → WorldNode) (disks : ℕ → MediumValue) (first : ℕ) (places : List Place)
    → MatchFrom nodes disks first places
    → AllByRecursion (λ (d : DiskValue). d.starved ≡ false) (map disk_at places)
fed_from nodes disks first [] each = tt
fed_from nodes disks first (at ∷ places) each = (
  fed_is (nodes first) (disks first) at (first_match nodes disks first at places each),
  fed_from nodes disks (first + 1) places (later_match nodes disks first at places each),
)

pub disks_of : (v : StageValue) (p : WorldOnDisks) (disks : List DiskValue) → disks ≡ map disk_at v.places → IsStageOf v p
    → AreDisksOf p disks
disks_of v p disks are stage =
    subst (AreDisksOf p) (sym are) (record {
      mediums = mediums_from p.world.nodes p.disks 1 v.places stage.set.places
          ∙ ap (λ (n : ℕ). map p.disks (numbers_from 1 n)) (sym stage.set.count);
      told = fed_from p.world.nodes p.disks 1 v.places stage.set.places;
    })

pub map_last : {A B : Type 0} (f : A → B) (xs : List A) (x : A) → map f (xs ++ x ∷ []) ≡ map f xs ++ f x ∷ []
map_last f [] x = refl
map_last f (y ∷ xs) x = ap (λ l. f y ∷ l) (map_last f xs x)

pub nothing_left : {A : Type 0} (xs : List A) → length xs ≡ 0 → xs ≡ []
nothing_left [] h = refl
nothing_left (x ∷ xs) h = absurd (omega arith)

-- an item was put last
pub pushed : {T E P : Type 0} (r : Result T E) → OnOk r P → is_err r ≡ false → P
pushed (Ok x) h is = h
pushed (Err e) h is = absurd cc

-- ---- the start

pub got_last : {A : Type 0} (xs : List A) (x y : A) (k : ℕ) → slice_get (xs ++ x ∷ []) k ≡ Some y
    → (slice_get xs k ≡ Some y) ⊎ ((k ≡ length xs) × (x ≡ y))
got_last [] x y zero h = let same : x ≡ y = cc in inr (refl, same)
got_last [] x y (suc k) h = absurd cc
got_last (z ∷ xs) x y zero h = inl h
got_last (z ∷ xs) x y (suc k) h = elim (got_last xs x y k h) [
  | inl early ↦ inl early
  | inr late ↦ inr (ap suc late.0, late.1)
]

longer : {A : Type 0} (xs : List A) (x : A) → length (xs ++ x ∷ []) ≡ length xs + 1
longer [] x = refl
longer (y ∷ xs) x = let more = longer xs x in omega (arith, more)

pub no_places : ArePlacesAtStart 0 []
no_places = record { count_is = refl; each = λ k at h. absurd cc }

pub one_more : (count : ℕ) (places : List Place) (last : Place) → ArePlacesAtStart count places
    → Matches (node_at_start (count + 1) (node_base (count + 1))) (disk_at_start (count + 1)) last
    → ArePlacesAtStart (count + 1) (places ++ last ∷ [])
one_more count places last are matches = record {
  count_is = longer places last ∙ ap (λ (n : ℕ). n + 1) are.count_is;
  each = λ k at h. elim (got_last places last at k h) [
    | inl early ↦ are.each k at early
    | inr late ↦
        let number : count ≡ k = sym are.count_is ∙ sym late.0 in
        subst (λ (j : ℕ). Matches (node_at_start (j + 1) (node_base (j + 1))) (disk_at_start (j + 1)) at) number
        (subst (λ (it : Place). Matches (node_at_start (count + 1) (node_base (count + 1))) (disk_at_start (count + 1)) it) late.1 matches)
  ];
}

first_world : IsFirstWorld world_at_start
first_world = record { clock = refl; bag = refl; base = node_base; nodes = λ k. refl; in_range = base_in_range }

pub stage_at_start : (v : StageValue) (count : ℕ) → count < 2 ^ 32 → v.clock ≡ 0 → v.bag ≡ [] → ArePlacesAtStart count v.places
    → IsStageOf v (starting_play count)
stage_at_start v count few clock bag places = record {
  set = record {
    count = sym places.count_is;
    clock = clock;
    bag = ap (λ (ms : List Mail). map mail_of ms) bag;
    places = places.each;
  };
  before = [];
  run = starts first_world;
  posts = start_posts;
  few = few;
}

-- ---- the bag

mapped_length : (ms : List Mail) → length (map mail_of ms) ≡ length ms
mapped_length [] = refl
mapped_length (m ∷ ms) = ap suc (mapped_length ms)

pub bag_length : (v : StageValue) (p : WorldOnDisks) → IsSetAs v p → length v.bag ≡ length p.world.bag
bag_length v p set = sym (mapped_length v.bag) ∙ ap (λ (ms : List runs.Mail). length ms) set.bag
