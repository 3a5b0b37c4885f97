-- What may come after a line's first word.
use Rattle.std.proofs.Common.{◌≡◌, ◌≢◌, ℕ, List, [], ◌∷◌, ◌++◌, Option, None, Some, IfSome, IfNone, true, false, refl, sym, ap, ◌∙◌, codes}
use Rattle.std.proofs.Common.{if◌then◌else◌}
use Rattle.ba_script_forms.specs.Grammar.{fits, the, left_after, some_ends, Slot, opening_forms, pair_forms, world_forms}
use Rattle.ba_script_forms.specs.Readings.{forms_at}
use Rattle.ba_script_forms.specs.inside.LineWords.{BeginsOpening, BeginsPair, BeginsWorld, WorldFits, opening_left, opening_so_far, pair_left}
use Rattle.ba_script_forms.specs.inside.LineWords.{pair_so_far, world_left, world_so_far}
use Rattle.ba_script_forms.specs.declared.readings.Form.{Form}
use Rattle.ba_script_forms.specs.declared.readings.Form.TheVariants as form
use Rattle.ba_script_forms.specs.declared.line_words.PairWords.{PairWords}
use Rattle.ba_script_forms.specs.declared.line_words.PairWords.TheVariants as pair
use Rattle.ba_pair.specs.declared.events.PairEvent.TheVariants as event
use Rattle.ba_script_forms.specs.declared.line_words.OpeningWords.{OpeningWords}
use Rattle.ba_script_forms.specs.declared.line_words.OpeningWords.TheVariants as opening
use Rattle.ba_script_forms.specs.declared.world_words.WorldWords.{WorldWords}
use Rattle.ba_script_forms.specs.declared.world_words.WorldWords.TheVariants as world
use Rattle.ba_script_forms.proofs.Fits.{other_than}

one_word : (a b : List ℕ) → a ∷ [] ≡ b ∷ [] → a ≡ b
one_word a b same = cc

-- a word that is no line's first word
other_first : (wanted word : List ℕ) → wanted ∷ [] ≢ word ∷ [] → fits (the wanted) word ≡ false
other_first wanted word other = other_than wanted word (λ is. other (ap (λ t. t ∷ []) (sym is)))

-- the first words of these forms don't fit the word
abbrev BeginOtherwise : List ℕ → List (List Slot) → Type 0
BeginOtherwise word [] = Unit {0}
BeginOtherwise word ([] ∷ forms) = BeginOtherwise word forms
BeginOtherwise word ((slot ∷ slots) ∷ forms) = (fits slot word ≡ false) × BeginOtherwise word forms

none_left : (forms : List (List Slot)) (word : List ℕ) → BeginOtherwise word forms → left_after forms word ≡ []
none_left [] word others = refl
none_left ([] ∷ forms) word others = none_left forms word others
none_left ((slot ∷ slots) ∷ forms) word others =
    ap (λ t. if t then slots ∷ left_after forms word else left_after forms word) others.0 ∙ none_left forms word others.1

pub world_left_of : (next : WorldWords) (word : List ℕ) → BeginsWorld next → world_so_far next ≡ word ∷ []
    → left_after world_forms word ≡ world_left next
unfolding world_forms fits
world_left_of world.Create word begins is = ap (left_after world_forms) (sym (one_word (codes "create") word is))
world_left_of world.Join word begins is = ap (left_after world_forms) (sym (one_word (codes "join") word is))
world_left_of world.Tick word begins is = ap (left_after world_forms) (sym (one_word (codes "tick") word is))
world_left_of world.Deliver word begins is = ap (left_after world_forms) (sym (one_word (codes "deliver") word is))
world_left_of world.Act word begins is = ap (left_after world_forms) (sym (one_word (codes "act") word is))
world_left_of world.Ask word begins is = ap (left_after world_forms) (sym (one_word (codes "ask") word is))
world_left_of world.Decide word begins is = ap (left_after world_forms) (sym (one_word (codes "decide") word is))
world_left_of world.Choose word begins is = ap (left_after world_forms) (sym (one_word (codes "choose") word is))
world_left_of world.Complete word begins is = ap (left_after world_forms) (sym (one_word (codes "complete") word is))
world_left_of world.Finish word begins is = ap (left_after world_forms) (sym (one_word (codes "finish") word is))
world_left_of world.Leave word begins is = ap (left_after world_forms) (sym (one_word (codes "leave") word is))
world_left_of world.Wait word begins is = ap (left_after world_forms) (sym (one_word (codes "wait") word is))
world_left_of world.Crash word begins is = ap (left_after world_forms) (sym (one_word (codes "crash") word is))
world_left_of world.CrashAt word begins is = ap (left_after world_forms) (sym (one_word (codes "crashat") word is))
world_left_of world.Fail word begins is = ap (left_after world_forms) (sym (one_word (codes "fail") word is))
world_left_of world.Open word begins is = ap (left_after world_forms) (sym (one_word (codes "open") word is))
world_left_of (world.CreateAt n) word begins is = absurd begins
world_left_of (world.Created n k) word begins is = absurd begins
world_left_of (world.CreateUnder n k) word begins is = absurd begins
world_left_of (world.CreatedUnder n k i) word begins is = absurd begins
world_left_of (world.CreatedCc n k i) word begins is = absurd begins
world_left_of (world.CreateExpires n k u) word begins is = absurd begins
world_left_of (world.JoinAt n) word begins is = absurd begins
world_left_of (world.JoinBy n p) word begins is = absurd begins
world_left_of (world.ActOf i) word begins is = absurd begins
world_left_of (world.DecideOf i) word begins is = absurd begins
world_left_of (world.ChooseOf i) word begins is = absurd begins
world_left_of (world.LeaveOf i) word begins is = absurd begins
world_left_of (world.CrashAtNode n) word begins is = absurd begins
world_left_of (world.CrashAtCall n c) word begins is = absurd begins
world_left_of (world.FailNode n) word begins is = absurd begins
world_left_of (world.Whole e) word begins is = absurd begins

pub no_world_left : (word : List ℕ) → ((next : WorldWords) → BeginsWorld next → world_so_far next ≢ word ∷ [])
    → left_after world_forms word ≡ []
unfolding world_forms
no_world_left word none =
    let create_other = other_first (codes "create") word (none world.Create tt) in
    let join_other = other_first (codes "join") word (none world.Join tt) in
    let tick_other = other_first (codes "tick") word (none world.Tick tt) in
    let deliver_other = other_first (codes "deliver") word (none world.Deliver tt) in
    let act_other = other_first (codes "act") word (none world.Act tt) in
    let ask_other = other_first (codes "ask") word (none world.Ask tt) in
    let decide_other = other_first (codes "decide") word (none world.Decide tt) in
    let choose_other = other_first (codes "choose") word (none world.Choose tt) in
    let complete_other = other_first (codes "complete") word (none world.Complete tt) in
    let finish_other = other_first (codes "finish") word (none world.Finish tt) in
    let leave_other = other_first (codes "leave") word (none world.Leave tt) in
    let wait_other = other_first (codes "wait") word (none world.Wait tt) in
    let crash_other = other_first (codes "crash") word (none world.Crash tt) in
    let crashat_other = other_first (codes "crashat") word (none world.CrashAt tt) in
    let fail_other = other_first (codes "fail") word (none world.Fail tt) in
    let open_other = other_first (codes "open") word (none world.Open tt) in
    none_left world_forms word (
      create_other,
      (
        create_other,
        (
          create_other,
          (
            create_other,
            (
              create_other,
              (
                create_other,
                (
                  join_other,
                  (
                    tick_other,
                    (
                      deliver_other,
                      (
                        act_other,
                        (
                          ask_other,
                          (
                            decide_other,
                            (
                              choose_other,
                              (
                                complete_other,
                                (
                                  finish_other,
                                  (leave_other, (wait_other, (crash_other, (crashat_other, (fail_other, (open_other, tt)))))),
                                ),
                              ),
                            ),
                          ),
                        ),
                      ),
                    ),
                  ),
                ),
              ),
            ),
          ),
        ),
      ),
    )

-- the same of the line that chooses the form
pub opening_left_of : (next : OpeningWords) (word : List ℕ) → BeginsOpening next → opening_so_far next ≡ word ∷ []
    → left_after opening_forms word ≡ opening_left next
unfolding opening_forms fits
opening_left_of opening.Pair word begins is = ap (left_after opening_forms) (sym (one_word (codes "pair") word is))
opening_left_of opening.Nodes word begins is = ap (left_after opening_forms) (sym (one_word (codes "nodes") word is))
opening_left_of (opening.Whole f) word begins is = absurd begins

pub pair_left_none : (next : OpeningWords) (word : List ℕ) → BeginsOpening next → opening_so_far next ≡ word ∷ []
    → left_after pair_forms word ≡ []
unfolding pair_forms fits
pair_left_none opening.Pair word begins is = ap (left_after pair_forms) (sym (one_word (codes "pair") word is))
pair_left_none opening.Nodes word begins is = ap (left_after pair_forms) (sym (one_word (codes "nodes") word is))
pair_left_none (opening.Whole f) word begins is = absurd begins

pub no_opening_left : (word : List ℕ) → ((next : OpeningWords) → BeginsOpening next → opening_so_far next ≢ word ∷ [])
    → left_after opening_forms word ≡ []
unfolding opening_forms
no_opening_left word none =
    let no_pair = other_first (codes "pair") word (none opening.Pair tt) in
    let no_nodes = other_first (codes "nodes") word (none opening.Nodes tt) in
    none_left opening_forms word (no_pair, (no_nodes, tt))

-- and of a pair's events
pub pair_left_of : (next : PairWords) (word : List ℕ) → BeginsPair next → pair_so_far next ≡ word ∷ []
    → left_after pair_forms word ≡ pair_left next
unfolding pair_forms fits
pair_left_of pair.Act word begins is = ap (left_after pair_forms) (sym (one_word (codes "act") word is))
pair_left_of pair.Tick word begins is = ap (left_after pair_forms) (sym (one_word (codes "tick") word is))
pair_left_of pair.Choose word begins is = ap (left_after pair_forms) (sym (one_word (codes "choose") word is))
pair_left_of pair.Deliver word begins is = ap (left_after pair_forms) (sym (one_word (codes "deliver") word is))
pair_left_of (pair.Whole event.Complete) word begins is = ap (left_after pair_forms) (sym (one_word (codes "complete") word is))
pair_left_of (pair.Whole (event.Act a)) word begins is = absurd begins
pair_left_of (pair.Whole (event.Tick s)) word begins is = absurd begins
pair_left_of (pair.Whole (event.Choose v)) word begins is = absurd begins
pair_left_of (pair.Whole (event.Deliver n)) word begins is = absurd begins

pub no_pair_left : (word : List ℕ) → ((next : PairWords) → BeginsPair next → pair_so_far next ≢ word ∷ [])
    → left_after pair_forms word ≡ []
unfolding pair_forms
no_pair_left word none =
    let act_other = other_first (codes "act") word (none pair.Act tt) in
    let tick_other = other_first (codes "tick") word (none pair.Tick tt) in
    let choose_other = other_first (codes "choose") word (none pair.Choose tt) in
    let complete_other = other_first (codes "complete") word (none (pair.Whole event.Complete) tt) in
    let deliver_other = other_first (codes "deliver") word (none pair.Deliver tt) in
    none_left pair_forms word (act_other, (tick_other, (choose_other, (complete_other, (deliver_other, tt)))))

-- where two lists of forms stand together
pub left_of_both : (a b : List (List Slot)) (word : List ℕ) → left_after (a ++ b) word ≡ left_after a word ++ left_after b word
left_of_both [] b word = refl
left_of_both ([] ∷ a) b word = left_of_both a b word
left_of_both ((slot ∷ slots) ∷ a) b word =
    elim (fits slot word) as (λ t. (if t then slots ∷ left_after (a ++ b) word else left_after (a ++ b) word)
    ≡ (if t then slots ∷ left_after a word else left_after a word) ++ left_after b word) [
      | true ↦ ap (λ forms. slots ∷ forms) (left_of_both a b word)
      | false ↦ left_of_both a b word
    ]

-- no form is empty
pub no_form_is_empty : (chosen : Option Form) → some_ends (forms_at chosen) ≡ false
unfolding opening_forms pair_forms world_forms
no_form_is_empty None = refl
no_form_is_empty (Some (form.Pair p)) = refl
no_form_is_empty (Some (form.World n)) = refl

-- the same of what was looked for

pub world_if_some : (r : Option WorldWords) (word : List ℕ) → IfSome r (λ next. world_so_far next ≡ word ∷ []) → IfSome r BeginsWorld
    → IfSome r (λ next. left_after world_forms word ≡ world_left next)
world_if_some None word is begins = tt
world_if_some (Some next) word is begins = world_left_of next word begins is

pub world_if_none : (r : Option WorldWords) (word : List ℕ) → IfNone r ((next : WorldWords) → BeginsWorld next
    → world_so_far next ≢ word ∷ [])
    → IfNone r (left_after world_forms word ≡ [])
world_if_none None word none = no_world_left word none
world_if_none (Some next) word none = tt

pub opening_if_some : (r : Option OpeningWords) (word : List ℕ) → IfSome r (λ next. opening_so_far next ≡ word ∷ [])
    → IfSome r BeginsOpening
    → IfSome r (λ next. left_after opening_forms word ≡ opening_left next)
opening_if_some None word is begins = tt
opening_if_some (Some next) word is begins = opening_left_of next word begins is

pub opening_if_none : (r : Option OpeningWords) (word : List ℕ) → IfNone r ((next : OpeningWords) → BeginsOpening next
    → opening_so_far next ≢ word ∷ [])
    → IfNone r (left_after opening_forms word ≡ [])
opening_if_none None word none = no_opening_left word none
opening_if_none (Some next) word none = tt

pub pair_if_some : (r : Option PairWords) (word : List ℕ) → IfSome r (λ next. pair_so_far next ≡ word ∷ []) → IfSome r BeginsPair
    → IfSome r (λ next. left_after pair_forms word ≡ pair_left next)
pair_if_some None word is begins = tt
pair_if_some (Some next) word is begins = pair_left_of next word begins is

pub pair_if_none : (r : Option PairWords) (word : List ℕ) → IfNone r ((next : PairWords) → BeginsPair next → pair_so_far next ≢ word ∷ [])
    → IfNone r (left_after pair_forms word ≡ [])
pair_if_none None word none = no_pair_left word none
pair_if_none (Some next) word none = tt

pub opening_if_alone : (r : Option OpeningWords) (word : List ℕ) → IfSome r (λ next. opening_so_far next ≡ word ∷ [])
    → IfSome r BeginsOpening
    → IfSome r (λ next. left_after pair_forms word ≡ [])
opening_if_alone None word is begins = tt
opening_if_alone (Some next) word is begins = pair_left_none next word begins is

pub world_if_fits : (r : Option WorldWords) → IfSome r BeginsWorld → IfSome r WorldFits
world_if_fits None begins = tt
world_if_fits (Some world.Create) begins = tt
world_if_fits (Some world.Join) begins = tt
world_if_fits (Some world.Tick) begins = tt
world_if_fits (Some world.Deliver) begins = tt
world_if_fits (Some world.Act) begins = tt
world_if_fits (Some world.Ask) begins = tt
world_if_fits (Some world.Decide) begins = tt
world_if_fits (Some world.Choose) begins = tt
world_if_fits (Some world.Complete) begins = tt
world_if_fits (Some world.Finish) begins = tt
world_if_fits (Some world.Leave) begins = tt
world_if_fits (Some world.Wait) begins = tt
world_if_fits (Some world.Crash) begins = tt
world_if_fits (Some world.CrashAt) begins = tt
world_if_fits (Some world.Fail) begins = tt
world_if_fits (Some world.Open) begins = tt
world_if_fits (Some (world.CreateAt n)) begins = absurd begins
world_if_fits (Some (world.Created n k)) begins = absurd begins
world_if_fits (Some (world.CreateUnder n k)) begins = absurd begins
world_if_fits (Some (world.CreatedUnder n k i)) begins = absurd begins
world_if_fits (Some (world.CreatedCc n k i)) begins = absurd begins
world_if_fits (Some (world.CreateExpires n k u)) begins = absurd begins
world_if_fits (Some (world.JoinAt n)) begins = absurd begins
world_if_fits (Some (world.JoinBy n p)) begins = absurd begins
world_if_fits (Some (world.ActOf i)) begins = absurd begins
world_if_fits (Some (world.DecideOf i)) begins = absurd begins
world_if_fits (Some (world.ChooseOf i)) begins = absurd begins
world_if_fits (Some (world.LeaveOf i)) begins = absurd begins
world_if_fits (Some (world.CrashAtNode n)) begins = absurd begins
world_if_fits (Some (world.CrashAtCall n c)) begins = absurd begins
world_if_fits (Some (world.FailNode n)) begins = absurd begins
world_if_fits (Some (world.Whole e)) begins = absurd begins
