-- A line's words are looked at one after another: how far the looking came.
use Rattle.std.proofs.Common.{◌≡◌, ◌≢◌, ℕ, ◌+◌, ◌-◌, ◌<◌, Option, None, Some, false, if◌then◌else◌, All, List, [], ◌∷◌, ◌++◌, length, take}
use Rattle.std.proofs.Common.{drop, slice_index, refl, sym, ap, ◌∙◌, append_assoc, append-nil, take-append-drop, take_all, arith}
use Rattle.std.proofs.Common.{length-take, length-drop}
use Rattle.std.proofs.lemmas.List.{drop_more}
use Rattle.std.proofs.lemmas.List.Elements.{recursion_from_All}
use Rattle.ba_script_forms.specs.Grammar.{words_of, left_after, bad_or, bad_word, some_ends, Slot, opening_forms, pair_forms, world_forms}
use Rattle.ba_script_forms.specs.Readings.{forms_at}
use Rattle.ba_script_forms.specs.inside.LineWords.{FirstWord, WordsFit, WordsMayStand, forms_left, so_far, opening_left, pair_left, world_left}
use Rattle.ba_script_forms.specs.declared.line_words.LineWords.{LineWords}
use Rattle.ba_script_forms.specs.declared.line_words.LineWords.TheVariants as line
use Rattle.ba_script_forms.specs.declared.line_words.OpeningWords.{OpeningWords}
use Rattle.ba_script_forms.specs.declared.line_words.OpeningWords.TheVariants as opening
use Rattle.ba_script_forms.specs.declared.line_words.PairWords.{PairWords}
use Rattle.ba_script_forms.specs.declared.line_words.PairWords.TheVariants as pair
use Rattle.ba_script_forms.specs.declared.readings.Form.{Form}
use Rattle.ba_script_forms.specs.declared.readings.Form.TheVariants as form
use Rattle.ba_script_forms.specs.declared.world_words.WorldWords.{WorldWords}
use Rattle.ba_script_forms.specs.declared.world_words.WorldWords.TheVariants as world
use Rattle.ba_script_forms.proofs.Names.{Lacks, part_ended, part_last}

-- the first word of bytes

pub word_ended : (bytes : List ℕ) (n : ℕ) → n < length bytes → slice_index bytes n ≡ 32 → All (λ b. b ≢ 32) (take n bytes)
    → FirstWord bytes n
word_ended bytes n within space clear_at =
    let clear : Lacks 32 (take n bytes) = recursion_from_All (λ b. b ≢ 32) (take n bytes) clear_at in
    let rest : drop n bytes ≡ 32 ∷ drop (n + 1) bytes = drop_more bytes n 0 within ∙ ap (λ c. c ∷ drop (n + 1) bytes) space in
    record {
      within = omega arith;
      more = words_of (drop (n + 1) bytes);
      words =
          ap words_of (sym (take-append-drop n bytes) ∙ ap (λ t. take n bytes ++ t) rest)
          ∙ part_ended 32 (take n bytes) (drop (n + 1) bytes) clear;
      last = λ all. absurd (omega arith);
      later = λ short. refl;
    }

pub word_last : (bytes : List ℕ) (n : ℕ) → n ≡ length bytes → All (λ b. b ≢ 32) bytes → FirstWord bytes n
word_last bytes n all clear_at =
    let clear : Lacks 32 bytes = recursion_from_All (λ b. b ≢ 32) bytes clear_at in
    let whole : take n bytes ≡ bytes = take_all n bytes (omega arith) in
    record {
      within = omega arith;
      more = [];
      words = part_last 32 bytes clear ∙ ap (λ w. w ∷ []) (sym whole);
      last = λ same. refl;
      later = λ short. absurd (omega arith);
    }

pub all_after : (bytes : List ℕ) (n : ℕ) → take (length bytes - (n + 1)) (drop (n + 1) bytes) ≡ drop (n + 1) bytes
all_after bytes n = take_all (length bytes - (n + 1)) (drop (n + 1) bytes) (omega (arith, length-drop (n + 1) bytes))

-- one form is left at least
pub record IsSomeForm (forms : List (List Slot)) : Type 0 where
  pub first : List Slot
  pub others : List (List Slot)
  pub is : forms ≡ first ∷ others

opening_some : (words : OpeningWords) → IsSomeForm (opening_left words)
opening_some opening.Pair = record { first = _; others = _; is = refl }
opening_some opening.Nodes = record { first = _; others = _; is = refl }
opening_some (opening.Whole f) = record { first = _; others = _; is = refl }

pair_some : (words : PairWords) → IsSomeForm (pair_left words)
pair_some pair.Act = record { first = _; others = _; is = refl }
pair_some pair.Tick = record { first = _; others = _; is = refl }
pair_some pair.Choose = record { first = _; others = _; is = refl }
pair_some pair.Deliver = record { first = _; others = _; is = refl }
pair_some (pair.Whole e) = record { first = _; others = _; is = refl }

world_some : (words : WorldWords) → IsSomeForm (world_left words)
world_some world.Create = record { first = _; others = _; is = refl }
world_some (world.CreateAt n) = record { first = _; others = _; is = refl }
world_some (world.Created n k) = record { first = _; others = _; is = refl }
world_some (world.CreateUnder n k) = record { first = _; others = _; is = refl }
world_some (world.CreatedUnder n k i) = record { first = _; others = _; is = refl }
world_some (world.CreatedCc n k i) = record { first = _; others = _; is = refl }
world_some (world.CreateExpires n k u) = record { first = _; others = _; is = refl }
world_some world.Join = record { first = _; others = _; is = refl }
world_some (world.JoinAt n) = record { first = _; others = _; is = refl }
world_some (world.JoinBy n p) = record { first = _; others = _; is = refl }
world_some world.Tick = record { first = _; others = _; is = refl }
world_some world.Deliver = record { first = _; others = _; is = refl }
world_some world.Act = record { first = _; others = _; is = refl }
world_some (world.ActOf i) = record { first = _; others = _; is = refl }
world_some world.Ask = record { first = _; others = _; is = refl }
world_some world.Decide = record { first = _; others = _; is = refl }
world_some (world.DecideOf i) = record { first = _; others = _; is = refl }
world_some world.Choose = record { first = _; others = _; is = refl }
world_some (world.ChooseOf i) = record { first = _; others = _; is = refl }
world_some world.Complete = record { first = _; others = _; is = refl }
world_some world.Finish = record { first = _; others = _; is = refl }
world_some world.Leave = record { first = _; others = _; is = refl }
world_some (world.LeaveOf i) = record { first = _; others = _; is = refl }
world_some world.Wait = record { first = _; others = _; is = refl }
world_some world.Crash = record { first = _; others = _; is = refl }
world_some world.CrashAt = record { first = _; others = _; is = refl }
world_some (world.CrashAtNode n) = record { first = _; others = _; is = refl }
world_some (world.CrashAtCall n c) = record { first = _; others = _; is = refl }
world_some world.Fail = record { first = _; others = _; is = refl }
world_some (world.FailNode n) = record { first = _; others = _; is = refl }
world_some world.Open = record { first = _; others = _; is = refl }
world_some (world.Whole e) = record { first = _; others = _; is = refl }

chosen_some : (chosen : Option Form) → IsSomeForm (forms_at chosen)
unfolding opening_forms pair_forms world_forms
chosen_some None = record { first = _; others = _; is = refl }
chosen_some (Some (form.Pair p)) = record { first = _; others = _; is = refl }
chosen_some (Some (form.World n)) = record { first = _; others = _; is = refl }

some_left : (words : LineWords) → IsSomeForm (forms_left words)
some_left (line.Nothing chosen) = chosen_some chosen
some_left (line.Opening words) = opening_some words
some_left (line.Pair words) = pair_some words
some_left (line.World words) = world_some words

-- the next word

goes_on : (forms next : List (List Slot)) (word : List ℕ) (words : List (List ℕ)) (column : ℕ) → left_after forms word ≡ next
    → IsSomeForm next
    → bad_word forms (word ∷ words) column ≡ bad_word next words (column + length word + 1)
goes_on forms next word words column left some =
    ap (λ n. bad_or n column (bad_word n words (column + length word + 1))) (left ∙ some.is)
    ∙ ap (λ n. bad_word n words (column + length word + 1)) (sym some.is)

stops_here : (forms : List (List Slot)) (word : List ℕ) (words : List (List ℕ)) (column : ℕ) → left_after forms word ≡ []
    → bad_word forms (word ∷ words) column ≡ Some column
stops_here forms word words column left = ap (λ n. bad_or n column (bad_word n words (column + length word + 1))) left

missing : (forms : List (List Slot)) (column : ℕ) → some_ends forms ≡ false → bad_word forms [] column ≡ Some (column - 1)
missing forms column none = ap (λ t. if t then None else Some (column - 1)) none

-- so much of the line was looked at, and this rest of it comes yet, from this column on
pub record Walk (chosen : Option Form) (bytes rest : List ℕ) (told : LineWords) (column : ℕ) : Type 0 where
  pub fit : WordsFit told
  pub stand : WordsMayStand chosen told
  pub words : so_far told ++ words_of rest ≡ words_of bytes
  pub bad : bad_word (forms_left told) (words_of rest) column ≡ bad_word (forms_at chosen) (words_of bytes) 1
  pub place : column + length rest ≡ length bytes + 1

pub begun : (chosen : Option Form) (bytes : List ℕ) → Walk chosen bytes bytes (line.Nothing chosen) 1
begun chosen bytes = record { fit = tt; stand = refl; words = refl; bad = refl; place = omega arith }

module _ (chosen : Option Form) (bytes rest : List ℕ) (told : LineWords) (column : ℕ) (w : Walk chosen bytes rest told column)
    (count : ℕ) (first : FirstWord rest count) (word : List ℕ) (is : word ≡ take count rest) where
  next_words : words_of rest ≡ word ∷ first.more
  next_words = first.words ∙ ap (λ t. t ∷ first.more) (sym is)

  -- no form is left after the word
  pub stopped : left_after (forms_left told) word ≡ [] → bad_word (forms_at chosen) (words_of bytes) 1 ≡ Some column
  stopped none =
      sym w.bad ∙ ap (λ ws. bad_word (forms_left told) ws column) next_words
      ∙ stops_here (forms_left told) word first.more column none

  module _ (next : LineWords) (fit : WordsFit next)
      (stand : (c : Option Form) → WordsMayStand c told → WordsMayStand c next)
      (says : so_far next ≡ so_far told ++ (word ∷ []))
      (left : left_after (forms_left told) word ≡ forms_left next) where
    word_more : so_far next ++ first.more ≡ words_of bytes
    word_more =
        ap (λ ws. ws ++ first.more) says ∙ append_assoc (so_far told) (word ∷ []) first.more
        ∙ ap (λ ws. so_far told ++ ws) (sym next_words) ∙ w.words

    bad_more : bad_word (forms_left next) first.more (column + count + 1) ≡ bad_word (forms_at chosen) (words_of bytes) 1
    bad_more =
        let size : length word ≡ count = omega (arith, ap length is, length-take count rest, first.within) in
        ap (λ n. bad_word (forms_left next) first.more (column + n + 1)) (sym size)
        ∙ sym (goes_on (forms_left told) (forms_left next) word first.more column left (some_left next))
        ∙ ap (λ ws. bad_word (forms_left told) ws column) (sym next_words) ∙ w.bad

    -- a word more
    pub walked : (later : List ℕ) (there : ℕ) → count < length rest → later ≡ drop (count + 1) rest → there ≡ column + count + 1
        → Walk chosen bytes later next there
    walked later there short at_later at_there =
        let words_there : first.more ≡ words_of later = first.later short ∙ ap words_of (sym at_later) in
        record {
          fit = fit;
          stand = stand chosen w.stand;
          words = ap (λ ws. so_far next ++ ws) (sym words_there) ∙ word_more;
          bad =
              ap (λ ws. bad_word (forms_left next) ws there) (sym words_there)
              ∙ ap (bad_word (forms_left next) first.more) at_there ∙ bad_more;
          place = omega (arith, w.place, ap length at_later, length-drop (count + 1) rest);
        }

    -- the word was the last one
    pub all_told : count ≡ length rest → words_of bytes ≡ so_far next
    all_told all = sym word_more ∙ ap (λ ws. so_far next ++ ws) (first.last all) ∙ append-nil (so_far next)

    -- and one is missing
    pub short_of : count ≡ length rest → some_ends (forms_left next) ≡ false
        → bad_word (forms_at chosen) (words_of bytes) 1 ≡ Some (column + count)
    short_of all none =
        sym bad_more ∙ ap (λ ws. bad_word (forms_left next) ws (column + count + 1)) (first.last all)
        ∙ missing (forms_left next) (column + count + 1) none ∙ ap Some (omega arith)
