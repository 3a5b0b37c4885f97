-- What a line says is told by its words alone: for the law that a line means one thing.
use Rattle.std.proofs.Common.{◌≡◌, ℕ, ◌^◌, ◌<◌, Bool, true, false, nat_eq, if◌then◌else◌, Option, None, Some, List, [], ◌∷◌, drop, codes}
use Rattle.std.proofs.Common.{refl, sym, ap, ◌∙◌, arith}
use Rattle.std.specs.Cmp.Lexicographic.{pointwise}
use Rattle.std.specs.Fmt.{decimal}
use Rattle.std.specs.Str.Parse.{digits_value}
use Rattle.std.proofs.lemmas.Fmt.{decimal_is_IsNumeral}
use Rattle.ba_core.specs.Numbers.{node_of, counter_of, id_of}
use Rattle.ba_core.specs.Texts.{id_text}
use Rattle.ba_core.specs.Words.{act_word, kind_word, protocol_word, verdict_word}
use Rattle.ba_core.specs.declared.identifiers.Id.{Id}
use Rattle.ba_world_events.specs.Events.{world_words, IsWritten, IsObject, image_word, leave_word}
use Rattle.ba_world_events.specs.declared.events.Event.{Event}
use Rattle.ba_world_events.specs.declared.events.Event.TheVariants as world
use Rattle.ba_pair.specs.declared.events.PairEvent.{PairEvent}
use Rattle.ba_pair.specs.declared.events.PairEvent.TheVariants as pair
use Rattle.ba_script_forms.specs.Grammar.{parted, words_of}
use Rattle.ba_script_forms.specs.Readings.{opening_words, IsPlayable, pair_words, IsPairWritten, side_word, IsRemark, Says, MayStand, IsLine}
use Rattle.ba_script_forms.specs.declared.readings.Form.{Form}
use Rattle.ba_script_forms.specs.declared.readings.Form.TheVariants as form
use Rattle.ba_script_forms.specs.declared.readings.Reading.{Reading}
use Rattle.ba_script_forms.specs.declared.readings.Reading.TheVariants.{Nothing, Opening, Pair, World}
use Rattle.ba_script_forms.proofs.Names.{joined, joined_parted, name_parts}
use Rattle.ba_core.specs.declared.notices.Act.{Act}
use Rattle.ba_core.specs.declared.notices.Act.TheVariants as acts
use Rattle.ba_core.specs.declared.protocols.Verdict.{Verdict}
use Rattle.ba_core.specs.declared.protocols.Verdict.TheVariants as verdicts
use Rattle.ba_core.specs.declared.protocols.Protocol.{Protocol}
use Rattle.ba_core.specs.declared.protocols.Protocol.TheVariants as protocols
use Rattle.ba_core.specs.declared.protocols.Kind.{Kind}
use Rattle.ba_core.specs.declared.protocols.Kind.TheVariants as kinds
use Rattle.ba_core.specs.declared.notices.Leave.{Leave}
use Rattle.ba_core.specs.declared.notices.Leave.TheVariants as leaves
use Rattle.ba_ports.specs.declared.images.Image.{Image}
use Rattle.ba_ports.specs.declared.images.Image.TheVariants as images
use Rattle.ba_core.specs.declared.protocols.Side.{Side}
use Rattle.ba_core.specs.declared.protocols.Side.TheVariants as sides

abbrev same : List ℕ → List ℕ → Bool
same word other = pointwise nat_eq word other

abbrev act_back : List ℕ → Act
act_back word =
    if same word (codes "completed") then acts.Completed
    else if same word (codes "closed") then acts.Closed
    else if same word (codes "canceled") then acts.Canceled
    else if same word (codes "compensated") then acts.Compensated
    else if same word (codes "fail") then acts.Fail
    else if same word (codes "exit") then acts.Exit
    else acts.CannotComplete

act_is : (x : Act) → act_back (act_word x) ≡ x
act_is acts.Completed = refl
act_is acts.Closed = refl
act_is acts.Canceled = refl
act_is acts.Compensated = refl
act_is acts.Fail = refl
act_is acts.Exit = refl
act_is acts.CannotComplete = refl

abbrev verdict_back : List ℕ → Verdict
verdict_back word =
    if same word (codes "close") then verdicts.Close
    else verdicts.Undo

verdict_is : (x : Verdict) → verdict_back (verdict_word x) ≡ x
verdict_is verdicts.Close = refl
verdict_is verdicts.Undo = refl

abbrev protocol_back : List ℕ → Protocol
protocol_back word =
    if same word (codes "pc") then protocols.Pc
    else protocols.Cc

protocol_is : (x : Protocol) → protocol_back (protocol_word x) ≡ x
protocol_is protocols.Pc = refl
protocol_is protocols.Cc = refl

abbrev kind_back : List ℕ → Kind
kind_back word =
    if same word (codes "atomic") then kinds.Atomic
    else kinds.Mixed

kind_is : (x : Kind) → kind_back (kind_word x) ≡ x
kind_is kinds.Atomic = refl
kind_is kinds.Mixed = refl

abbrev leave_back : List ℕ → Leave
leave_back word =
    if same word (codes "exit") then leaves.Exit
    else if same word (codes "fail") then leaves.Fail
    else leaves.CannotComplete

leave_is : (x : Leave) → leave_back (leave_word x) ≡ x
leave_is leaves.Exit = refl
leave_is leaves.Fail = refl
leave_is leaves.CannotComplete = refl

abbrev image_back : List ℕ → Image
image_back word =
    if same word (codes "old") then images.Old
    else if same word (codes "new") then images.New
    else if same word (codes "filled") then images.Filled
    else images.Half

image_is : (x : Image) → image_back (image_word x) ≡ x
image_is images.Old = refl
image_is images.New = refl
image_is images.Filled = refl
image_is images.Half = refl

abbrev side_back : List ℕ → Side
side_back word =
    if same word (codes "c") then sides.Coordinator
    else sides.Participant

side_is : (x : Side) → side_back (side_word x) ≡ x
side_is sides.Coordinator = refl
side_is sides.Participant = refl

-- numbers and names

abbrev value : List ℕ → ℕ
value word = digits_value 10 word

value_is : (n : ℕ) → n < 2 ^ 64 → value (decimal n) ≡ n
value_is n small = (decimal_is_IsNumeral n small).1

abbrev id_from : List (List ℕ) → Id
id_from [] = record { 0 = 0 }
id_from (node ∷ []) = record { 0 = 0 }
id_from (node ∷ counter ∷ others) = record { 0 = id_of (value node) (value counter) }

abbrev id_back : List ℕ → Id
id_back word = id_from (parted 46 word)

id_is : (id : Id) → IsObject id → id_back (id_text id.0) ≡ id
id_is id object =
    let low : node_of id.0 < 2 ^ 32 = omega arith in
    let small : counter_of id.0 < 2 ^ 64 = omega arith in
    let number : id_of (node_of id.0) (counter_of id.0) ≡ id.0 = omega arith in
    ap id_from (name_parts (node_of id.0) (counter_of id.0) low small)
    ∙ ap (λ (n : ℕ). the_id (id_of n (value (decimal (counter_of id.0))))) (value_is (node_of id.0) (omega arith))
    ∙ ap (λ (n : ℕ). the_id (id_of (node_of id.0) n)) (value_is (counter_of id.0) small)
    ∙ ap the_id number
  where
    the_id : ℕ → Id
    the_id n = record { 0 = n }

-- events of a pair

abbrev first_of : List (List ℕ) → List ℕ
first_of [] = []
first_of (word ∷ words) = word

abbrev after_first : List (List ℕ) → List (List ℕ)
after_first [] = []
after_first (word ∷ words) = words

abbrev word_at : ℕ → List (List ℕ) → List ℕ
word_at n words = first_of (drop n words)

abbrev pair_back : List (List ℕ) → PairEvent
pair_back words =
    if same (first_of words) (codes "act") then pair.Act (act_back (word_at 1 words))
    else if same (first_of words) (codes "tick") then pair.Tick (side_back (word_at 1 words))
    else if same (first_of words) (codes "choose") then pair.Choose (verdict_back (word_at 1 words))
    else if same (first_of words) (codes "complete") then pair.Complete
    else pair.Deliver (value (word_at 1 words))

pair_is : (e : PairEvent) → IsPairWritten e → pair_back (pair_words e) ≡ e
pair_is (pair.Act a) written = ap pair.Act (act_is a)
pair_is (pair.Tick s) written = ap pair.Tick (side_is s)
pair_is (pair.Choose v) written = ap pair.Choose (verdict_is v)
pair_is pair.Complete written = refl
pair_is (pair.Deliver n) written = ap pair.Deliver (value_is n written)

-- events of a world

abbrev expires_back : List (List ℕ) → Option ℕ
expires_back [] = None
expires_back (word ∷ words) = Some (value (first_of words))

abbrev under_back : List ℕ → List (List ℕ) → ℕ → Kind → Event
under_back name [] node kind = world.Create node kind (Some (id_back name, protocols.Pc)) None
under_back name (word ∷ words) node kind =
    if same word (codes "cc") then world.Create node kind (Some (id_back name, protocols.Cc)) (expires_back words)
    else world.Create node kind (Some (id_back name, protocols.Pc)) (expires_back (word ∷ words))

abbrev create_back : List (List ℕ) → ℕ → Kind → Event
create_back [] node kind = world.Create node kind None None
create_back (word ∷ words) node kind =
    if same word (codes "under") then under_back (first_of words) (after_first words) node kind
    else world.Create node kind None (expires_back (word ∷ words))

abbrev world_back : List (List ℕ) → Event
world_back words =
    if same (first_of words) (codes "create") then create_back (drop 3 words) (value (word_at 1 words)) (kind_back (word_at 2 words))
    else if same (first_of words) (codes "join") then
    world.Join (value (word_at 1 words)) (protocol_back (word_at 2 words)) (id_back (word_at 3 words))
    else if same (first_of words) (codes "tick") then world.Tick (id_back (word_at 1 words))
    else if same (first_of words) (codes "deliver") then world.Deliver (value (word_at 1 words))
    else if same (first_of words) (codes "act") then world.Act (id_back (word_at 1 words)) (act_back (word_at 2 words))
    else if same (first_of words) (codes "ask") then world.Ask (id_back (word_at 1 words))
    else if same (first_of words) (codes "decide") then world.Decide (id_back (word_at 1 words)) (verdict_back (word_at 2 words))
    else if same (first_of words) (codes "choose") then world.Choose (id_back (word_at 1 words)) (verdict_back (word_at 2 words))
    else if same (first_of words) (codes "complete") then world.Complete (id_back (word_at 1 words))
    else if same (first_of words) (codes "finish") then world.Finish (id_back (word_at 1 words))
    else if same (first_of words) (codes "leave") then world.Leave (id_back (word_at 1 words)) (leave_back (word_at 2 words))
    else if same (first_of words) (codes "wait") then world.Wait (value (word_at 1 words))
    else if same (first_of words) (codes "crash") then world.Crash (value (word_at 1 words))
    else if same (first_of words) (codes "crashat") then
    world.CrashAt (value (word_at 1 words)) (value (word_at 2 words)) (image_back (word_at 3 words))
    else if same (first_of words) (codes "fail") then world.Fail (value (word_at 1 words)) (value (word_at 2 words))
    else world.Open (value (word_at 1 words))

create_is : (n m : ℕ) (k l : Kind) (under other : Option (Id × Protocol)) (expires later : Option ℕ) → n ≡ m → k ≡ l → under ≡ other
    → expires ≡ later
    → world.Create n k under expires ≡ world.Create m l other later
create_is n m k l under other expires later a b c d = cc

world_is : (e : Event) → IsWritten e → world_back (world_words e) ≡ e
world_is (world.Create n k None None) written =
    create_is _ _ _ _ _ _ _ _ (value_is n (omega arith)) (kind_is k) refl refl
world_is (world.Create n k None (Some t)) written =
    create_is _ _ _ _ _ _ _ _ (value_is n (omega arith)) (kind_is k) refl (ap Some (value_is t (omega arith)))
world_is (world.Create n k (Some (i, protocols.Pc)) None) written =
    create_is _ _ _ _ _ _ _ _ (value_is n (omega arith)) (kind_is k) (ap (λ (x : Id). Some (x, protocols.Pc)) (id_is i written.1)) refl
world_is (world.Create n k (Some (i, protocols.Pc)) (Some t)) written =
    create_is _ _ _ _ _ _ _ _ (value_is n (omega arith)) (kind_is k) (ap (λ (x : Id). Some (x, protocols.Pc)) (id_is i written.1))
    (ap Some (value_is t (omega arith)))
world_is (world.Create n k (Some (i, protocols.Cc)) None) written =
    create_is _ _ _ _ _ _ _ _ (value_is n (omega arith)) (kind_is k) (ap (λ (x : Id). Some (x, protocols.Cc)) (id_is i written.1)) refl
world_is (world.Create n k (Some (i, protocols.Cc)) (Some t)) written =
    create_is _ _ _ _ _ _ _ _ (value_is n (omega arith)) (kind_is k) (ap (λ (x : Id). Some (x, protocols.Cc)) (id_is i written.1))
    (ap Some (value_is t (omega arith)))
world_is (world.Join n p i) written =
    ap (λ (m : ℕ). world.Join m (protocol_back (protocol_word p)) (id_back (id_text i.0))) (value_is n (omega arith))
    ∙ ap (λ (q : Protocol). world.Join n q (id_back (id_text i.0))) (protocol_is p) ∙ ap (world.Join n p) (id_is i written.1)
world_is (world.Tick i) written = ap world.Tick (id_is i written)
world_is (world.Deliver n) written = ap world.Deliver (value_is n written)
world_is (world.Act i a) written =
    ap (λ (x : Id). world.Act x (act_back (act_word a))) (id_is i written) ∙ ap (world.Act i) (act_is a)
world_is (world.Ask i) written = ap world.Ask (id_is i written)
world_is (world.Decide i v) written =
    ap (λ (x : Id). world.Decide x (verdict_back (verdict_word v))) (id_is i written) ∙ ap (world.Decide i) (verdict_is v)
world_is (world.Choose i v) written =
    ap (λ (x : Id). world.Choose x (verdict_back (verdict_word v))) (id_is i written) ∙ ap (world.Choose i) (verdict_is v)
world_is (world.Complete i) written = ap world.Complete (id_is i written)
world_is (world.Finish i) written = ap world.Finish (id_is i written)
world_is (world.Leave i l) written =
    ap (λ (x : Id). world.Leave x (leave_back (leave_word l))) (id_is i written) ∙ ap (world.Leave i) (leave_is l)
world_is (world.Wait t) written = ap world.Wait (value_is t (omega arith))
world_is (world.Crash n) written = ap world.Crash (value_is n (omega arith))
world_is (world.CrashAt n c i) written =
    ap (λ (m : ℕ). world.CrashAt m (value (decimal c)) (image_back (image_word i))) (value_is n (omega arith))
    ∙ ap (λ (m : ℕ). world.CrashAt n m (image_back (image_word i))) (value_is c (omega arith)) ∙ ap (world.CrashAt n c) (image_is i)
world_is (world.Fail n c) written =
    ap (λ (m : ℕ). world.Fail m (value (decimal c))) (value_is n (omega arith)) ∙ ap (world.Fail n) (value_is c (omega arith))
world_is (world.Open n) written = ap world.Open (value_is n (omega arith))

-- the line that chooses the form

abbrev opening_back : List (List ℕ) → Form
opening_back words =
    if same (first_of words) (codes "pair") then form.Pair (protocol_back (word_at 1 words)) else form.World (value (word_at 1 words))

opening_is : (f : Form) → IsPlayable f → opening_back (opening_words f) ≡ f
opening_is (form.Pair p) playable = ap form.Pair (protocol_is p)
opening_is (form.World n) playable = ap form.World (value_is n (omega arith))

-- any line

abbrev remark_test : List ℕ → Bool
remark_test [] = true
remark_test (byte ∷ bytes) = nat_eq byte 35

remark_true : (line : List ℕ) → IsRemark line → remark_test line ≡ true
remark_true [] is = refl
remark_true (byte ∷ bytes) is = ap (λ b. nat_eq b 35) is

-- whether the first word chooses the form
abbrev opens : List (List ℕ) → Bool
opens words = if same (first_of words) (codes "pair") then true else same (first_of words) (codes "nodes")

abbrev words_back : Option Form → List (List ℕ) → Reading
words_back None words = if opens words then Opening (opening_back words) else Pair (pair_back words)
words_back (Some (form.Pair p)) words = Pair (pair_back words)
words_back (Some (form.World n)) words = World (world_back words)

abbrev line_back : Option Form → List ℕ → Reading
line_back chosen line = if remark_test line then Nothing else words_back chosen (words_of line)

-- a line whose first word begins so is no remark
not_remark : (line : List ℕ) (words : List (List ℕ)) → words_of line ≡ words → remark_test line ≡ remark_test (joined 32 words)
not_remark line words is = ap remark_test (sym (joined_parted 32 line) ∙ ap (joined 32) is)

by_words : (chosen : Option Form) (line : List ℕ) (words : List (List ℕ)) (r : Reading) → words_of line ≡ words
    → remark_test (joined 32 words) ≡ false
    → words_back chosen words ≡ r → line_back chosen line ≡ r
by_words chosen line words r is plain back =
    ap (λ (t : Bool). if t then Nothing else words_back chosen (words_of line)) (not_remark line words is ∙ plain)
    ∙ ap (words_back chosen) is ∙ back

opening_no_remark : (f : Form) → remark_test (joined 32 (opening_words f)) ≡ false
opening_no_remark (form.Pair p) = refl
opening_no_remark (form.World n) = refl

pair_no_remark : (e : PairEvent) → remark_test (joined 32 (pair_words e)) ≡ false
pair_no_remark (pair.Act a) = refl
pair_no_remark (pair.Tick s) = refl
pair_no_remark (pair.Choose v) = refl
pair_no_remark pair.Complete = refl
pair_no_remark (pair.Deliver n) = refl

pair_opens_not : (e : PairEvent) → opens (pair_words e) ≡ false
pair_opens_not (pair.Act a) = refl
pair_opens_not (pair.Tick s) = refl
pair_opens_not (pair.Choose v) = refl
pair_opens_not pair.Complete = refl
pair_opens_not (pair.Deliver n) = refl

form_opens : (f : Form) → opens (opening_words f) ≡ true
form_opens (form.Pair p) = refl
form_opens (form.World n) = refl

world_no_remark : (e : Event) → remark_test (joined 32 (world_words e)) ≡ false
world_no_remark (world.Create n k None None) = refl
world_no_remark (world.Create n k None (Some t)) = refl
world_no_remark (world.Create n k (Some (i, protocols.Pc)) x) = refl
world_no_remark (world.Create n k (Some (i, protocols.Cc)) x) = refl
world_no_remark (world.Join n p i) = refl
world_no_remark (world.Tick i) = refl
world_no_remark (world.Deliver n) = refl
world_no_remark (world.Act i a) = refl
world_no_remark (world.Ask i) = refl
world_no_remark (world.Decide i v) = refl
world_no_remark (world.Choose i v) = refl
world_no_remark (world.Complete i) = refl
world_no_remark (world.Finish i) = refl
world_no_remark (world.Leave i l) = refl
world_no_remark (world.Wait t) = refl
world_no_remark (world.Crash n) = refl
world_no_remark (world.CrashAt n c i) = refl
world_no_remark (world.Fail n c) = refl
world_no_remark (world.Open n) = refl

says_back : (chosen : Option Form) (r : Reading) (line : List ℕ) → MayStand chosen r → Says r line → line_back chosen line ≡ r
says_back chosen Nothing line stands says =
    ap (λ (t : Bool). if t then Nothing else words_back chosen (words_of line)) (remark_true line says)
says_back chosen (Opening f) line stands says =
    by_words chosen line (opening_words f) (Opening f) says.0 (opening_no_remark f)
    (ap (λ (c : Option Form). words_back c (opening_words f)) stands
    ∙ ap (λ (t : Bool). if t then Opening (opening_back (opening_words f)) else Pair (pair_back (opening_words f))) (form_opens f)
    ∙ ap Opening (opening_is f says.1))
says_back None (Pair e) line stands says =
    by_words None line (pair_words e) (Pair e) says.0 (pair_no_remark e)
    (ap (λ (t : Bool). if t then Opening (opening_back (pair_words e)) else Pair (pair_back (pair_words e))) (pair_opens_not e)
    ∙ ap Pair (pair_is e says.1))
says_back (Some (form.Pair p)) (Pair e) line stands says =
    by_words (Some (form.Pair p)) line (pair_words e) (Pair e) says.0 (pair_no_remark e) (ap Pair (pair_is e says.1))
says_back (Some (form.World n)) (Pair e) line stands says = absurd stands
says_back None (World e) line stands says = absurd stands
says_back (Some (form.Pair p)) (World e) line stands says = absurd stands
says_back (Some (form.World n)) (World e) line stands says =
    by_words (Some (form.World n)) line (world_words e) (World e) says.0 (world_no_remark e) (ap World (world_is e says.1))

-- a line says one thing at most
pub line_is_one : (chosen : Option Form) (r s : Reading) (line : List ℕ) → IsLine chosen r line → IsLine chosen s line → r ≡ s
line_is_one chosen r s line one other =
    sym (says_back chosen r line one.stands one.says) ∙ says_back chosen s line other.stands other.says
