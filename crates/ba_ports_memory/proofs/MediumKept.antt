-- A Medium keeps what a read gives and what a stop leaves.
use Rattle.std.proofs.Common.{◌≡◌, ◌≤◌, ℕ, zero, suc, List, [], ◌∷◌, ◌++◌, length, take, drop, Option, Some, None, refl, sym, ◌∙◌, ap}
use Rattle.std.proofs.Common.{arith, take-append-drop}
use Rattle.std.proofs.lemmas.List.{take-append-le}
use Rattle.ba_ports_memory.specs.DiskValue.{imaged, all_imaged}
use Rattle.ba_ports_memory.specs.inside.MediumFits.{image_of, left_of, shown_or, IsShown, IsLeft}
use Rattle.ba_ports_memory.specs.declared.changes.Change.{Change}
use Rattle.ba_ports.specs.declared.images.Image.{Image}
use Rattle.ba_ports.specs.declared.images.Image.TheVariants as image
use Rattle.ba_ports_memory.specs.declared.media.Stopped.{Stopped}

pub none_left : (stopped : Option Stopped) (base : List ℕ) (changes : List Change) (settled : ℕ) → image_of stopped ≡ None
    → IsLeft stopped base changes settled
none_left None base changes settled is = tt
none_left (Some stop) base changes settled is = cc

pub all_imaged_append : (i : Image) (first second : List Change) (file : List ℕ)
    → all_imaged i (first ++ second) file ≡ all_imaged i second (all_imaged i first file)
all_imaged_append i [] second file = refl
all_imaged_append i (change ∷ first) second file = all_imaged_append i first second (imaged i change file)

-- what was synced and then what is pending are all changes
pub all_of : (base : List ℕ) (changes : List Change) (settled : ℕ)
    → left_of image.New base changes settled ≡ all_imaged image.New changes base
all_of base changes settled =
    sym (all_imaged_append image.New (take settled changes) (drop settled changes) base)
    ∙ ap (λ (l : List Change). all_imaged image.New l base) (take-append-drop settled changes)

pub shown_is : (shown : Option (List ℕ)) (changes : List Change) (base : List ℕ) → IsShown shown changes base
    → shown_or base shown ≡ all_imaged image.New changes base
shown_is None changes base none = sym (ap (λ (l : List Change). all_imaged image.New l base) none)
shown_is (Some shown) changes base is = is

pub bytes_shown : (shown : Option (List ℕ)) (changes : List Change) (base : List ℕ) (settled : ℕ) → IsShown shown changes base
    → shown_or base shown ≡ left_of image.New base changes settled
bytes_shown shown changes base settled is = shown_is shown changes base is ∙ sym (all_of base changes settled)

-- one change more
pub drop_more : (changes : List Change) (settled : ℕ) (change : Change) → settled ≤ length changes
    → drop settled (changes ++ change ∷ []) ≡ drop settled changes ++ change ∷ []
drop_more [] settled change within = let none : settled ≡ 0 = omega arith in ap (λ (n : ℕ). drop n (change ∷ [])) none
    ∙ sym (ap (λ (n : ℕ). drop n [] ++ change ∷ []) none)
drop_more (first ∷ changes) zero change within = refl
drop_more (first ∷ changes) (suc settled) change within = drop_more changes settled change (omega arith)

pub take_more : (changes : List Change) (settled : ℕ) (change : Change) → settled ≤ length changes
    → take settled (changes ++ change ∷ []) ≡ take settled changes
take_more changes settled change within = take-append-le settled changes (change ∷ []) within
