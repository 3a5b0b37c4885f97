-- What it is for a word to be an act, a verdict, a protocol, a kind, a way to leave or an image.
use Rattle.std.proofs.Common.{◌≡◌, ◌≢◌, ℕ, List, [], ◌∷◌, inl, inr, Option, None, Some, IfSome, IfNone, true, false, ap}
use Rattle.ba_core.specs.Words.{act_word, kind_word, protocol_word, verdict_word}
use Rattle.ba_world_events.specs.Events.{image_word, leave_word}
use Rattle.ba_script_forms.specs.Grammar.{fits, a_kind, a_leave, a_protocol, a_side, a_verdict, an_act, an_image}
use Rattle.ba_script_forms.specs.Readings.{side_word}
use Rattle.ba_core.specs.declared.protocols.Side.{Side}
use Rattle.ba_core.specs.declared.protocols.Side.TheVariants as sides
use Rattle.ba_script_forms.proofs.Fits.{none_of, SomeWord, some_word}
use Rattle.ba_core.specs.declared.notices.Act.{Act}
use Rattle.ba_core.specs.declared.notices.Act.TheVariants as acts
use Rattle.ba_core.specs.declared.protocols.Verdict.{Verdict}
use Rattle.ba_core.specs.declared.protocols.Verdict.TheVariants as verdicts
use Rattle.ba_core.specs.declared.protocols.Protocol.{Protocol}
use Rattle.ba_core.specs.declared.protocols.Protocol.TheVariants as protocols
use Rattle.ba_core.specs.declared.protocols.Kind.{Kind}
use Rattle.ba_core.specs.declared.protocols.Kind.TheVariants as kinds
use Rattle.ba_core.specs.declared.notices.Leave.{Leave}
use Rattle.ba_core.specs.declared.notices.Leave.TheVariants as leaves
use Rattle.ba_ports.specs.declared.images.Image.{Image}
use Rattle.ba_ports.specs.declared.images.Image.TheVariants as images

pub act_fits : (x : Act) (word : List ℕ) → word ≡ act_word x → fits an_act word ≡ true
unfolding fits
act_fits acts.Completed word is = ap (fits an_act) is
act_fits acts.Closed word is = ap (fits an_act) is
act_fits acts.Canceled word is = ap (fits an_act) is
act_fits acts.Compensated word is = ap (fits an_act) is
act_fits acts.Fail word is = ap (fits an_act) is
act_fits acts.Exit word is = ap (fits an_act) is
act_fits acts.CannotComplete word is = ap (fits an_act) is

pub no_act : (word : List ℕ) → ((x : Act) → word ≢ act_word x) → fits an_act word ≡ false
unfolding fits
no_act word none =
    none_of (act_word acts.Completed ∷ act_word acts.Closed ∷ act_word acts.Canceled ∷ act_word acts.Compensated ∷ act_word acts.Fail
    ∷ act_word acts.Exit ∷ act_word acts.CannotComplete ∷ []) word (
      none acts.Completed,
      (
        none acts.Closed,
        (
          none acts.Canceled,
          (
            none acts.Compensated,
            (
              none acts.Fail,
              (
                none acts.Exit,
                (none acts.CannotComplete, tt),
              ),
            ),
          ),
        ),
      ),
    )

pub verdict_fits : (x : Verdict) (word : List ℕ) → word ≡ verdict_word x → fits a_verdict word ≡ true
unfolding fits
verdict_fits verdicts.Close word is = ap (fits a_verdict) is
verdict_fits verdicts.Undo word is = ap (fits a_verdict) is

pub no_verdict : (word : List ℕ) → ((x : Verdict) → word ≢ verdict_word x) → fits a_verdict word ≡ false
unfolding fits
no_verdict word none =
    none_of (verdict_word verdicts.Close ∷ verdict_word verdicts.Undo ∷ []) word
    (none verdicts.Close, (none verdicts.Undo, tt))

pub protocol_fits : (x : Protocol) (word : List ℕ) → word ≡ protocol_word x → fits a_protocol word ≡ true
unfolding fits
protocol_fits protocols.Pc word is = ap (fits a_protocol) is
protocol_fits protocols.Cc word is = ap (fits a_protocol) is

pub no_protocol : (word : List ℕ) → ((x : Protocol) → word ≢ protocol_word x) → fits a_protocol word ≡ false
unfolding fits
no_protocol word none =
    none_of (protocol_word protocols.Pc ∷ protocol_word protocols.Cc ∷ []) word
    (none protocols.Pc, (none protocols.Cc, tt))

pub kind_fits : (x : Kind) (word : List ℕ) → word ≡ kind_word x → fits a_kind word ≡ true
unfolding fits
kind_fits kinds.Atomic word is = ap (fits a_kind) is
kind_fits kinds.Mixed word is = ap (fits a_kind) is

pub no_kind : (word : List ℕ) → ((x : Kind) → word ≢ kind_word x) → fits a_kind word ≡ false
unfolding fits
no_kind word none =
    none_of (kind_word kinds.Atomic ∷ kind_word kinds.Mixed ∷ []) word
    (none kinds.Atomic, (none kinds.Mixed, tt))

pub leave_fits : (x : Leave) (word : List ℕ) → word ≡ leave_word x → fits a_leave word ≡ true
unfolding fits
leave_fits leaves.Exit word is = ap (fits a_leave) is
leave_fits leaves.Fail word is = ap (fits a_leave) is
leave_fits leaves.CannotComplete word is = ap (fits a_leave) is

pub no_leave : (word : List ℕ) → ((x : Leave) → word ≢ leave_word x) → fits a_leave word ≡ false
unfolding fits
no_leave word none =
    none_of (leave_word leaves.Exit ∷ leave_word leaves.Fail ∷ leave_word leaves.CannotComplete ∷ []) word
    (none leaves.Exit, (none leaves.Fail, (none leaves.CannotComplete, tt)))

pub image_fits : (x : Image) (word : List ℕ) → word ≡ image_word x → fits an_image word ≡ true
unfolding fits
image_fits images.Old word is = ap (fits an_image) is
image_fits images.New word is = ap (fits an_image) is
image_fits images.Filled word is = ap (fits an_image) is
image_fits images.Half word is = ap (fits an_image) is

pub no_image : (word : List ℕ) → ((x : Image) → word ≢ image_word x) → fits an_image word ≡ false
unfolding fits
no_image word none =
    none_of (image_word images.Old ∷ image_word images.New ∷ image_word images.Filled ∷ image_word images.Half ∷ []) word
    (none images.Old, (none images.New, (none images.Filled, (none images.Half, tt))))

pub side_fits : (x : Side) (word : List ℕ) → word ≡ side_word x → fits a_side word ≡ true
unfolding fits
side_fits sides.Coordinator word is = ap (fits a_side) is
side_fits sides.Participant word is = ap (fits a_side) is

pub no_side : (word : List ℕ) → ((x : Side) → word ≢ side_word x) → fits a_side word ≡ false
unfolding fits
no_side word none =
    none_of (side_word sides.Coordinator ∷ side_word sides.Participant ∷ []) word
    (none sides.Coordinator, (none sides.Participant, tt))

-- the same of what was looked for

pub act_if_some : (r : Option Act) (word : List ℕ) → IfSome r (λ x. word ≡ act_word x) → IfSome r (λ x. fits an_act word ≡ true)
act_if_some None word is = tt
act_if_some (Some x) word is = act_fits x word is

pub act_if_none : (r : Option Act) (word : List ℕ) → IfNone r ((x : Act) → word ≢ act_word x) → IfNone r (fits an_act word ≡ false)
act_if_none None word none = no_act word none
act_if_none (Some x) word none = tt

pub verdict_if_some : (r : Option Verdict) (word : List ℕ) → IfSome r (λ x. word ≡ verdict_word x)
    → IfSome r (λ x. fits a_verdict word ≡ true)
verdict_if_some None word is = tt
verdict_if_some (Some x) word is = verdict_fits x word is

pub verdict_if_none : (r : Option Verdict) (word : List ℕ) → IfNone r ((x : Verdict) → word ≢ verdict_word x)
    → IfNone r (fits a_verdict word ≡ false)
verdict_if_none None word none = no_verdict word none
verdict_if_none (Some x) word none = tt

pub protocol_if_some : (r : Option Protocol) (word : List ℕ) → IfSome r (λ x. word ≡ protocol_word x)
    → IfSome r (λ x. fits a_protocol word ≡ true)
protocol_if_some None word is = tt
protocol_if_some (Some x) word is = protocol_fits x word is

pub protocol_if_none : (r : Option Protocol) (word : List ℕ) → IfNone r ((x : Protocol) → word ≢ protocol_word x)
    → IfNone r (fits a_protocol word ≡ false)
protocol_if_none None word none = no_protocol word none
protocol_if_none (Some x) word none = tt

pub kind_if_some : (r : Option Kind) (word : List ℕ) → IfSome r (λ x. word ≡ kind_word x) → IfSome r (λ x. fits a_kind word ≡ true)
kind_if_some None word is = tt
kind_if_some (Some x) word is = kind_fits x word is

pub kind_if_none : (r : Option Kind) (word : List ℕ) → IfNone r ((x : Kind) → word ≢ kind_word x) → IfNone r (fits a_kind word ≡ false)
kind_if_none None word none = no_kind word none
kind_if_none (Some x) word none = tt

pub leave_if_some : (r : Option Leave) (word : List ℕ) → IfSome r (λ x. word ≡ leave_word x) → IfSome r (λ x. fits a_leave word ≡ true)
leave_if_some None word is = tt
leave_if_some (Some x) word is = leave_fits x word is

pub leave_if_none : (r : Option Leave) (word : List ℕ) → IfNone r ((x : Leave) → word ≢ leave_word x)
    → IfNone r (fits a_leave word ≡ false)
leave_if_none None word none = no_leave word none
leave_if_none (Some x) word none = tt

pub image_if_some : (r : Option Image) (word : List ℕ) → IfSome r (λ x. word ≡ image_word x) → IfSome r (λ x. fits an_image word ≡ true)
image_if_some None word is = tt
image_if_some (Some x) word is = image_fits x word is

pub image_if_none : (r : Option Image) (word : List ℕ) → IfNone r ((x : Image) → word ≢ image_word x)
    → IfNone r (fits an_image word ≡ false)
image_if_none None word none = no_image word none
image_if_none (Some x) word none = tt

pub side_if_some : (r : Option Side) (word : List ℕ) → IfSome r (λ x. word ≡ side_word x) → IfSome r (λ x. fits a_side word ≡ true)
side_if_some None word is = tt
side_if_some (Some x) word is = side_fits x word is

pub side_if_none : (r : Option Side) (word : List ℕ) → IfNone r ((x : Side) → word ≢ side_word x) → IfNone r (fits a_side word ≡ false)
side_if_none None word none = no_side word none
side_if_none (Some x) word none = tt

-- a word that fits is that of one of them

act_of_some : (word : List ℕ) → SomeWord word (act_word acts.Completed ∷ act_word acts.Closed ∷ act_word acts.Canceled
    ∷ act_word acts.Compensated ∷ act_word acts.Fail ∷ act_word acts.Exit ∷ act_word acts.CannotComplete ∷ [])
    → (x : Act) × (word ≡ act_word x)
act_of_some word (inl is) = (acts.Completed, is)
act_of_some word (inr (inl is)) = (acts.Closed, is)
act_of_some word (inr (inr (inl is))) = (acts.Canceled, is)
act_of_some word (inr (inr (inr (inl is)))) = (acts.Compensated, is)
act_of_some word (inr (inr (inr (inr (inl is))))) = (acts.Fail, is)
act_of_some word (inr (inr (inr (inr (inr (inl is)))))) = (acts.Exit, is)
act_of_some word (inr (inr (inr (inr (inr (inr (inl is))))))) = (acts.CannotComplete, is)
act_of_some word (inr (inr (inr (inr (inr (inr (inr none))))))) = absurd none

pub act_of_fit : (word : List ℕ) → fits an_act word ≡ true → (x : Act) × (word ≡ act_word x)
unfolding fits
act_of_fit word holds = act_of_some word (some_word (act_word acts.Completed ∷ act_word acts.Closed ∷ act_word acts.Canceled
    ∷ act_word acts.Compensated ∷ act_word acts.Fail ∷ act_word acts.Exit ∷ act_word acts.CannotComplete ∷ []) word holds)

verdict_of_some : (word : List ℕ) → SomeWord word (verdict_word verdicts.Close ∷ verdict_word verdicts.Undo ∷ [])
    → (x : Verdict) × (word ≡ verdict_word x)
verdict_of_some word (inl is) = (verdicts.Close, is)
verdict_of_some word (inr (inl is)) = (verdicts.Undo, is)
verdict_of_some word (inr (inr none)) = absurd none

pub verdict_of_fit : (word : List ℕ) → fits a_verdict word ≡ true → (x : Verdict) × (word ≡ verdict_word x)
unfolding fits
verdict_of_fit word holds = verdict_of_some word (some_word (verdict_word verdicts.Close ∷ verdict_word verdicts.Undo ∷ []) word holds)

protocol_of_some : (word : List ℕ) → SomeWord word (protocol_word protocols.Pc ∷ protocol_word protocols.Cc ∷ [])
    → (x : Protocol) × (word ≡ protocol_word x)
protocol_of_some word (inl is) = (protocols.Pc, is)
protocol_of_some word (inr (inl is)) = (protocols.Cc, is)
protocol_of_some word (inr (inr none)) = absurd none

pub protocol_of_fit : (word : List ℕ) → fits a_protocol word ≡ true → (x : Protocol) × (word ≡ protocol_word x)
unfolding fits
protocol_of_fit word holds = protocol_of_some word (some_word (protocol_word protocols.Pc ∷ protocol_word protocols.Cc ∷ []) word holds)

kind_of_some : (word : List ℕ) → SomeWord word (kind_word kinds.Atomic ∷ kind_word kinds.Mixed ∷ []) → (x : Kind) × (word ≡ kind_word x)
kind_of_some word (inl is) = (kinds.Atomic, is)
kind_of_some word (inr (inl is)) = (kinds.Mixed, is)
kind_of_some word (inr (inr none)) = absurd none

pub kind_of_fit : (word : List ℕ) → fits a_kind word ≡ true → (x : Kind) × (word ≡ kind_word x)
unfolding fits
kind_of_fit word holds = kind_of_some word (some_word (kind_word kinds.Atomic ∷ kind_word kinds.Mixed ∷ []) word holds)

leave_of_some : (word : List ℕ) → SomeWord word (leave_word leaves.Exit ∷ leave_word leaves.Fail ∷ leave_word leaves.CannotComplete
    ∷ []) → (x : Leave) × (word ≡ leave_word x)
leave_of_some word (inl is) = (leaves.Exit, is)
leave_of_some word (inr (inl is)) = (leaves.Fail, is)
leave_of_some word (inr (inr (inl is))) = (leaves.CannotComplete, is)
leave_of_some word (inr (inr (inr none))) = absurd none

pub leave_of_fit : (word : List ℕ) → fits a_leave word ≡ true → (x : Leave) × (word ≡ leave_word x)
unfolding fits
leave_of_fit word holds = leave_of_some word (some_word (leave_word leaves.Exit ∷ leave_word leaves.Fail
    ∷ leave_word leaves.CannotComplete ∷ []) word holds)

image_of_some : (word : List ℕ) → SomeWord word (image_word images.Old ∷ image_word images.New ∷ image_word images.Filled
    ∷ image_word images.Half ∷ []) → (x : Image) × (word ≡ image_word x)
image_of_some word (inl is) = (images.Old, is)
image_of_some word (inr (inl is)) = (images.New, is)
image_of_some word (inr (inr (inl is))) = (images.Filled, is)
image_of_some word (inr (inr (inr (inl is)))) = (images.Half, is)
image_of_some word (inr (inr (inr (inr none)))) = absurd none

pub image_of_fit : (word : List ℕ) → fits an_image word ≡ true → (x : Image) × (word ≡ image_word x)
unfolding fits
image_of_fit word holds = image_of_some word (some_word (image_word images.Old ∷ image_word images.New ∷ image_word images.Filled
    ∷ image_word images.Half ∷ []) word holds)

side_of_some : (word : List ℕ) → SomeWord word (side_word sides.Coordinator ∷ side_word sides.Participant ∷ [])
    → (x : Side) × (word ≡ side_word x)
side_of_some word (inl is) = (sides.Coordinator, is)
side_of_some word (inr (inl is)) = (sides.Participant, is)
side_of_some word (inr (inr none)) = absurd none

pub side_of_fit : (word : List ℕ) → fits a_side word ≡ true → (x : Side) × (word ≡ side_word x)
unfolding fits
side_of_fit word holds = side_of_some word (some_word (side_word sides.Coordinator ∷ side_word sides.Participant ∷ []) word holds)
