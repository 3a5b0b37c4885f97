-- Words that fit a form are those of what the form says: for the law that a line means one thing.
use Rattle.std.proofs.Common.{◌≡◌, ℕ, inl, inr, None, Some, List, [], ◌∷◌, codes, ap, ◌∙◌, arith}
use Rattle.std.specs.Fmt.{decimal}
use Rattle.std.specs.Str.Parse.{digits_value}
use Rattle.ba_core.specs.Texts.{id_text}
use Rattle.ba_core.specs.Words.{act_word, kind_word, protocol_word, verdict_word}
use Rattle.ba_core.specs.declared.protocols.Protocol.TheVariants.{Pc, Cc}
use Rattle.ba_world_events.specs.Events.{world_words, IsWritten, image_word, leave_word}
use Rattle.ba_world_events.specs.declared.events.Event.{Event}
use Rattle.ba_world_events.specs.declared.events.Event.TheVariants as world
use Rattle.ba_pair.specs.declared.events.PairEvent.{PairEvent}
use Rattle.ba_pair.specs.declared.events.PairEvent.TheVariants as pair
use Rattle.ba_script_forms.specs.Grammar.{the, name, number, a_call, a_kind, a_leave, a_message, a_node, a_protocol, a_side, a_time, a_verdict}
use Rattle.ba_script_forms.specs.Grammar.{an_act, an_image, most_32, most_64, opening_forms, pair_forms, world_forms}
use Rattle.ba_script_forms.specs.Readings.{opening_words, IsPlayable, pair_words, IsPairWritten, side_word}
use Rattle.ba_script_forms.specs.declared.readings.Form.{Form}
use Rattle.ba_script_forms.specs.declared.readings.Form.TheVariants as form
use Rattle.ba_script_forms.proofs.Accepted.{AllFit, SomeFits, first_fitting, no_others}
use Rattle.ba_script_forms.proofs.Choices.{act_of_fit, verdict_of_fit, protocol_of_fit, kind_of_fit, leave_of_fit, image_of_fit, side_of_fit}
use Rattle.ba_script_forms.proofs.Fits.{is_the, number_of_fit}
use Rattle.ba_script_forms.proofs.Names.{object_of_fit}

pair_chosen : (words : List (List ℕ)) → AllFit (the (codes "pair") ∷ a_protocol ∷ []) words
    → (e : Form) × (words ≡ opening_words e) × IsPlayable e
pair_chosen words fit =
    let p0 = first_fitting (the (codes "pair")) (a_protocol ∷ []) words fit in
    let f0 : p0.word ≡ codes "pair" = is_the (codes "pair") p0.word p0.fit in
    let p1 = first_fitting a_protocol ([]) p0.others p0.rest in
    let f1 = protocol_of_fit p1.word p1.fit in
    let w1 : p0.others ≡ protocol_word f1.0 ∷ [] =
    p1.is ∙ ap (λ (w : List ℕ). w ∷ p1.others) f1.1
    ∙ ap (λ (ws : List (List ℕ)). (protocol_word f1.0) ∷ ws) (no_others p1.others p1.rest) in
    let w0 : words ≡ codes "pair" ∷ protocol_word f1.0 ∷ [] =
    p0.is ∙ ap (λ (w : List ℕ). w ∷ p0.others) f0 ∙ ap (λ (ws : List (List ℕ)). (codes "pair") ∷ ws) (w1) in
    (form.Pair f1.0, w0, tt)

nodes_chosen : (words : List (List ℕ)) → AllFit (the (codes "nodes") ∷ (number 1 64) ∷ []) words
    → (e : Form) × (words ≡ opening_words e) × IsPlayable e
nodes_chosen words fit =
    let p0 = first_fitting (the (codes "nodes")) ((number 1 64) ∷ []) words fit in
    let f0 : p0.word ≡ codes "nodes" = is_the (codes "nodes") p0.word p0.fit in
    let p1 = first_fitting (number 1 64) ([]) p0.others p0.rest in
    let f1 = number_of_fit 1 64 p1.word p1.fit in
    let w1 : p0.others ≡ decimal (digits_value 10 p1.word) ∷ [] =
    p1.is ∙ ap (λ (w : List ℕ). w ∷ p1.others) f1.0
    ∙ ap (λ (ws : List (List ℕ)). (decimal (digits_value 10 p1.word)) ∷ ws) (no_others p1.others p1.rest) in
    let w0 : words ≡ codes "nodes" ∷ decimal (digits_value 10 p1.word) ∷ [] =
    p0.is ∙ ap (λ (w : List ℕ). w ∷ p0.others) f0 ∙ ap (λ (ws : List (List ℕ)). (codes "nodes") ∷ ws) (w1) in
    (form.World (digits_value 10 p1.word), w0, (omega arith, omega arith))

act_told : (words : List (List ℕ)) → AllFit (the (codes "act") ∷ an_act ∷ []) words
    → (e : PairEvent) × (words ≡ pair_words e) × IsPairWritten e
act_told words fit =
    let p0 = first_fitting (the (codes "act")) (an_act ∷ []) words fit in
    let f0 : p0.word ≡ codes "act" = is_the (codes "act") p0.word p0.fit in
    let p1 = first_fitting an_act ([]) p0.others p0.rest in
    let f1 = act_of_fit p1.word p1.fit in
    let w1 : p0.others ≡ act_word f1.0 ∷ [] =
    p1.is ∙ ap (λ (w : List ℕ). w ∷ p1.others) f1.1 ∙ ap (λ (ws : List (List ℕ)). (act_word f1.0) ∷ ws) (no_others p1.others p1.rest) in
    let w0 : words ≡ codes "act" ∷ act_word f1.0 ∷ [] =
    p0.is ∙ ap (λ (w : List ℕ). w ∷ p0.others) f0 ∙ ap (λ (ws : List (List ℕ)). (codes "act") ∷ ws) (w1) in
    (pair.Act f1.0, w0, tt)

tick_told : (words : List (List ℕ)) → AllFit (the (codes "tick") ∷ a_side ∷ []) words
    → (e : PairEvent) × (words ≡ pair_words e) × IsPairWritten e
tick_told words fit =
    let p0 = first_fitting (the (codes "tick")) (a_side ∷ []) words fit in
    let f0 : p0.word ≡ codes "tick" = is_the (codes "tick") p0.word p0.fit in
    let p1 = first_fitting a_side ([]) p0.others p0.rest in
    let f1 = side_of_fit p1.word p1.fit in
    let w1 : p0.others ≡ side_word f1.0 ∷ [] =
    p1.is ∙ ap (λ (w : List ℕ). w ∷ p1.others) f1.1 ∙ ap (λ (ws : List (List ℕ)). (side_word f1.0) ∷ ws) (no_others p1.others p1.rest) in
    let w0 : words ≡ codes "tick" ∷ side_word f1.0 ∷ [] =
    p0.is ∙ ap (λ (w : List ℕ). w ∷ p0.others) f0 ∙ ap (λ (ws : List (List ℕ)). (codes "tick") ∷ ws) (w1) in
    (pair.Tick f1.0, w0, tt)

choose_told : (words : List (List ℕ)) → AllFit (the (codes "choose") ∷ a_verdict ∷ []) words
    → (e : PairEvent) × (words ≡ pair_words e) × IsPairWritten e
choose_told words fit =
    let p0 = first_fitting (the (codes "choose")) (a_verdict ∷ []) words fit in
    let f0 : p0.word ≡ codes "choose" = is_the (codes "choose") p0.word p0.fit in
    let p1 = first_fitting a_verdict ([]) p0.others p0.rest in
    let f1 = verdict_of_fit p1.word p1.fit in
    let w1 : p0.others ≡ verdict_word f1.0 ∷ [] =
    p1.is ∙ ap (λ (w : List ℕ). w ∷ p1.others) f1.1
    ∙ ap (λ (ws : List (List ℕ)). (verdict_word f1.0) ∷ ws) (no_others p1.others p1.rest) in
    let w0 : words ≡ codes "choose" ∷ verdict_word f1.0 ∷ [] =
    p0.is ∙ ap (λ (w : List ℕ). w ∷ p0.others) f0 ∙ ap (λ (ws : List (List ℕ)). (codes "choose") ∷ ws) (w1) in
    (pair.Choose f1.0, w0, tt)

complete_told : (words : List (List ℕ)) → AllFit (the (codes "complete") ∷ []) words
    → (e : PairEvent) × (words ≡ pair_words e) × IsPairWritten e
complete_told words fit =
    let p0 = first_fitting (the (codes "complete")) ([]) words fit in
    let f0 : p0.word ≡ codes "complete" = is_the (codes "complete") p0.word p0.fit in
    let w0 : words ≡ codes "complete" ∷ [] =
    p0.is ∙ ap (λ (w : List ℕ). w ∷ p0.others) f0 ∙ ap (λ (ws : List (List ℕ)). (codes "complete") ∷ ws) (no_others p0.others p0.rest) in
    (pair.Complete, w0, tt)

deliver_told : (words : List (List ℕ)) → AllFit (the (codes "deliver") ∷ a_message ∷ []) words
    → (e : PairEvent) × (words ≡ pair_words e) × IsPairWritten e
deliver_told words fit =
    let p0 = first_fitting (the (codes "deliver")) (a_message ∷ []) words fit in
    let f0 : p0.word ≡ codes "deliver" = is_the (codes "deliver") p0.word p0.fit in
    let p1 = first_fitting a_message ([]) p0.others p0.rest in
    let f1 = number_of_fit 0 most_64 p1.word p1.fit in
    let w1 : p0.others ≡ decimal (digits_value 10 p1.word) ∷ [] =
    p1.is ∙ ap (λ (w : List ℕ). w ∷ p1.others) f1.0
    ∙ ap (λ (ws : List (List ℕ)). (decimal (digits_value 10 p1.word)) ∷ ws) (no_others p1.others p1.rest) in
    let w0 : words ≡ codes "deliver" ∷ decimal (digits_value 10 p1.word) ∷ [] =
    p0.is ∙ ap (λ (w : List ℕ). w ∷ p0.others) f0 ∙ ap (λ (ws : List (List ℕ)). (codes "deliver") ∷ ws) (w1) in
    (pair.Deliver (digits_value 10 p1.word), w0, omega arith)

world_create : (words : List (List ℕ)) → AllFit (the (codes "create") ∷ a_node ∷ a_kind ∷ []) words
    → (e : Event) × (words ≡ world_words e) × IsWritten e
world_create words fit =
    let p0 = first_fitting (the (codes "create")) (a_node ∷ a_kind ∷ []) words fit in
    let f0 : p0.word ≡ codes "create" = is_the (codes "create") p0.word p0.fit in
    let p1 = first_fitting a_node (a_kind ∷ []) p0.others p0.rest in
    let f1 = number_of_fit 0 most_32 p1.word p1.fit in
    let p2 = first_fitting a_kind ([]) p1.others p1.rest in
    let f2 = kind_of_fit p2.word p2.fit in
    let w2 : p1.others ≡ kind_word f2.0 ∷ [] =
    p2.is ∙ ap (λ (w : List ℕ). w ∷ p2.others) f2.1 ∙ ap (λ (ws : List (List ℕ)). (kind_word f2.0) ∷ ws) (no_others p2.others p2.rest) in
    let w1 : p0.others ≡ decimal (digits_value 10 p1.word) ∷ kind_word f2.0 ∷ [] =
    p1.is ∙ ap (λ (w : List ℕ). w ∷ p1.others) f1.0 ∙ ap (λ (ws : List (List ℕ)). (decimal (digits_value 10 p1.word)) ∷ ws) (w2) in
    let w0 : words ≡ codes "create" ∷ decimal (digits_value 10 p1.word) ∷ kind_word f2.0 ∷ [] =
    p0.is ∙ ap (λ (w : List ℕ). w ∷ p0.others) f0 ∙ ap (λ (ws : List (List ℕ)). (codes "create") ∷ ws) (w1) in
    (world.Create (digits_value 10 p1.word) f2.0 None None, w0, (omega arith, tt, tt))

world_expires : (words : List (List ℕ)) → AllFit (the (codes "create") ∷ a_node ∷ a_kind ∷ the (codes "expires") ∷ a_time ∷ []) words
    → (e : Event) × (words ≡ world_words e) × IsWritten e
world_expires words fit =
    let p0 = first_fitting (the (codes "create")) (a_node ∷ a_kind ∷ the (codes "expires") ∷ a_time ∷ []) words fit in
    let f0 : p0.word ≡ codes "create" = is_the (codes "create") p0.word p0.fit in
    let p1 = first_fitting a_node (a_kind ∷ the (codes "expires") ∷ a_time ∷ []) p0.others p0.rest in
    let f1 = number_of_fit 0 most_32 p1.word p1.fit in
    let p2 = first_fitting a_kind (the (codes "expires") ∷ a_time ∷ []) p1.others p1.rest in
    let f2 = kind_of_fit p2.word p2.fit in
    let p3 = first_fitting (the (codes "expires")) (a_time ∷ []) p2.others p2.rest in
    let f3 : p3.word ≡ codes "expires" = is_the (codes "expires") p3.word p3.fit in
    let p4 = first_fitting a_time ([]) p3.others p3.rest in
    let f4 = number_of_fit 0 most_32 p4.word p4.fit in
    let w4 : p3.others ≡ decimal (digits_value 10 p4.word) ∷ [] =
    p4.is ∙ ap (λ (w : List ℕ). w ∷ p4.others) f4.0
    ∙ ap (λ (ws : List (List ℕ)). (decimal (digits_value 10 p4.word)) ∷ ws) (no_others p4.others p4.rest) in
    let w3 : p2.others ≡ codes "expires" ∷ decimal (digits_value 10 p4.word) ∷ [] =
    p3.is ∙ ap (λ (w : List ℕ). w ∷ p3.others) f3 ∙ ap (λ (ws : List (List ℕ)). (codes "expires") ∷ ws) (w4) in
    let w2 : p1.others ≡ kind_word f2.0 ∷ codes "expires" ∷ decimal (digits_value 10 p4.word) ∷ [] =
    p2.is ∙ ap (λ (w : List ℕ). w ∷ p2.others) f2.1 ∙ ap (λ (ws : List (List ℕ)). (kind_word f2.0) ∷ ws) (w3) in
    let w1 : p0.others ≡ decimal (digits_value 10 p1.word) ∷ kind_word f2.0 ∷ codes "expires" ∷ decimal (digits_value 10 p4.word) ∷ [] =
    p1.is ∙ ap (λ (w : List ℕ). w ∷ p1.others) f1.0 ∙ ap (λ (ws : List (List ℕ)). (decimal (digits_value 10 p1.word)) ∷ ws) (w2) in
    let w0 : words ≡ codes "create" ∷ decimal (digits_value 10 p1.word) ∷ kind_word f2.0 ∷ codes "expires"
    ∷ decimal (digits_value 10 p4.word) ∷ [] =
    p0.is ∙ ap (λ (w : List ℕ). w ∷ p0.others) f0 ∙ ap (λ (ws : List (List ℕ)). (codes "create") ∷ ws) (w1) in
    (world.Create (digits_value 10 p1.word) f2.0 None (Some (digits_value 10 p4.word)), w0, (omega arith, tt, omega arith))

world_under : (words : List (List ℕ)) → AllFit (the (codes "create") ∷ a_node ∷ a_kind ∷ the (codes "under") ∷ name ∷ []) words
    → (e : Event) × (words ≡ world_words e) × IsWritten e
world_under words fit =
    let p0 = first_fitting (the (codes "create")) (a_node ∷ a_kind ∷ the (codes "under") ∷ name ∷ []) words fit in
    let f0 : p0.word ≡ codes "create" = is_the (codes "create") p0.word p0.fit in
    let p1 = first_fitting a_node (a_kind ∷ the (codes "under") ∷ name ∷ []) p0.others p0.rest in
    let f1 = number_of_fit 0 most_32 p1.word p1.fit in
    let p2 = first_fitting a_kind (the (codes "under") ∷ name ∷ []) p1.others p1.rest in
    let f2 = kind_of_fit p2.word p2.fit in
    let p3 = first_fitting (the (codes "under")) (name ∷ []) p2.others p2.rest in
    let f3 : p3.word ≡ codes "under" = is_the (codes "under") p3.word p3.fit in
    let p4 = first_fitting name ([]) p3.others p3.rest in
    let f4 = object_of_fit p4.word p4.fit in
    let w4 : p3.others ≡ id_text f4.id.0 ∷ [] =
    p4.is ∙ ap (λ (w : List ℕ). w ∷ p4.others) f4.is
    ∙ ap (λ (ws : List (List ℕ)). (id_text f4.id.0) ∷ ws) (no_others p4.others p4.rest) in
    let w3 : p2.others ≡ codes "under" ∷ id_text f4.id.0 ∷ [] =
    p3.is ∙ ap (λ (w : List ℕ). w ∷ p3.others) f3 ∙ ap (λ (ws : List (List ℕ)). (codes "under") ∷ ws) (w4) in
    let w2 : p1.others ≡ kind_word f2.0 ∷ codes "under" ∷ id_text f4.id.0 ∷ [] =
    p2.is ∙ ap (λ (w : List ℕ). w ∷ p2.others) f2.1 ∙ ap (λ (ws : List (List ℕ)). (kind_word f2.0) ∷ ws) (w3) in
    let w1 : p0.others ≡ decimal (digits_value 10 p1.word) ∷ kind_word f2.0 ∷ codes "under" ∷ id_text f4.id.0 ∷ [] =
    p1.is ∙ ap (λ (w : List ℕ). w ∷ p1.others) f1.0 ∙ ap (λ (ws : List (List ℕ)). (decimal (digits_value 10 p1.word)) ∷ ws) (w2) in
    let w0 : words ≡ codes "create" ∷ decimal (digits_value 10 p1.word) ∷ kind_word f2.0 ∷ codes "under" ∷ id_text f4.id.0 ∷ [] =
    p0.is ∙ ap (λ (w : List ℕ). w ∷ p0.others) f0 ∙ ap (λ (ws : List (List ℕ)). (codes "create") ∷ ws) (w1) in
    (world.Create (digits_value 10 p1.word) f2.0 (Some (f4.id, Pc)) None, w0, (omega arith, f4.object, tt))

world_under_expires : (words : List (List ℕ)) → AllFit (the (codes "create") ∷ a_node ∷ a_kind ∷ the (codes "under") ∷ name
    ∷ the (codes "expires") ∷ a_time ∷ []) words
    → (e : Event) × (words ≡ world_words e) × IsWritten e
world_under_expires words fit =
    let p0 = first_fitting (the (codes "create")) (a_node ∷ a_kind ∷ the (codes "under") ∷ name ∷ the (codes "expires") ∷ a_time
    ∷ []) words fit in
    let f0 : p0.word ≡ codes "create" = is_the (codes "create") p0.word p0.fit in
    let p1 = first_fitting a_node (a_kind ∷ the (codes "under") ∷ name ∷ the (codes "expires") ∷ a_time ∷ []) p0.others p0.rest in
    let f1 = number_of_fit 0 most_32 p1.word p1.fit in
    let p2 = first_fitting a_kind (the (codes "under") ∷ name ∷ the (codes "expires") ∷ a_time ∷ []) p1.others p1.rest in
    let f2 = kind_of_fit p2.word p2.fit in
    let p3 = first_fitting (the (codes "under")) (name ∷ the (codes "expires") ∷ a_time ∷ []) p2.others p2.rest in
    let f3 : p3.word ≡ codes "under" = is_the (codes "under") p3.word p3.fit in
    let p4 = first_fitting name (the (codes "expires") ∷ a_time ∷ []) p3.others p3.rest in
    let f4 = object_of_fit p4.word p4.fit in
    let p5 = first_fitting (the (codes "expires")) (a_time ∷ []) p4.others p4.rest in
    let f5 : p5.word ≡ codes "expires" = is_the (codes "expires") p5.word p5.fit in
    let p6 = first_fitting a_time ([]) p5.others p5.rest in
    let f6 = number_of_fit 0 most_32 p6.word p6.fit in
    let w6 : p5.others ≡ decimal (digits_value 10 p6.word) ∷ [] =
    p6.is ∙ ap (λ (w : List ℕ). w ∷ p6.others) f6.0
    ∙ ap (λ (ws : List (List ℕ)). (decimal (digits_value 10 p6.word)) ∷ ws) (no_others p6.others p6.rest) in
    let w5 : p4.others ≡ codes "expires" ∷ decimal (digits_value 10 p6.word) ∷ [] =
    p5.is ∙ ap (λ (w : List ℕ). w ∷ p5.others) f5 ∙ ap (λ (ws : List (List ℕ)). (codes "expires") ∷ ws) (w6) in
    let w4 : p3.others ≡ id_text f4.id.0 ∷ codes "expires" ∷ decimal (digits_value 10 p6.word) ∷ [] =
    p4.is ∙ ap (λ (w : List ℕ). w ∷ p4.others) f4.is ∙ ap (λ (ws : List (List ℕ)). (id_text f4.id.0) ∷ ws) (w5) in
    let w3 : p2.others ≡ codes "under" ∷ id_text f4.id.0 ∷ codes "expires" ∷ decimal (digits_value 10 p6.word) ∷ [] =
    p3.is ∙ ap (λ (w : List ℕ). w ∷ p3.others) f3 ∙ ap (λ (ws : List (List ℕ)). (codes "under") ∷ ws) (w4) in
    let w2 : p1.others ≡ kind_word f2.0 ∷ codes "under" ∷ id_text f4.id.0 ∷ codes "expires" ∷ decimal (digits_value 10 p6.word) ∷ [] =
    p2.is ∙ ap (λ (w : List ℕ). w ∷ p2.others) f2.1 ∙ ap (λ (ws : List (List ℕ)). (kind_word f2.0) ∷ ws) (w3) in
    let w1 : p0.others ≡ decimal (digits_value 10 p1.word) ∷ kind_word f2.0 ∷ codes "under" ∷ id_text f4.id.0 ∷ codes "expires"
    ∷ decimal (digits_value 10 p6.word) ∷ [] =
    p1.is ∙ ap (λ (w : List ℕ). w ∷ p1.others) f1.0 ∙ ap (λ (ws : List (List ℕ)). (decimal (digits_value 10 p1.word)) ∷ ws) (w2) in
    let w0 : words ≡ codes "create" ∷ decimal (digits_value 10 p1.word) ∷ kind_word f2.0 ∷ codes "under" ∷ id_text f4.id.0
    ∷ codes "expires" ∷ decimal (digits_value 10 p6.word) ∷ [] =
    p0.is ∙ ap (λ (w : List ℕ). w ∷ p0.others) f0 ∙ ap (λ (ws : List (List ℕ)). (codes "create") ∷ ws) (w1) in (
      world.Create (digits_value 10 p1.word) f2.0 (Some (f4.id, Pc)) (Some (digits_value 10 p6.word)),
      w0,
      (
        omega arith,
        f4.object,
        omega arith,
      ),
    )

world_cc : (words : List (List ℕ)) → AllFit (the (codes "create") ∷ a_node ∷ a_kind ∷ the (codes "under") ∷ name ∷ the (codes "cc")
    ∷ []) words
    → (e : Event) × (words ≡ world_words e) × IsWritten e
world_cc words fit =
    let p0 = first_fitting (the (codes "create")) (a_node ∷ a_kind ∷ the (codes "under") ∷ name ∷ the (codes "cc") ∷ []) words fit in
    let f0 : p0.word ≡ codes "create" = is_the (codes "create") p0.word p0.fit in
    let p1 = first_fitting a_node (a_kind ∷ the (codes "under") ∷ name ∷ the (codes "cc") ∷ []) p0.others p0.rest in
    let f1 = number_of_fit 0 most_32 p1.word p1.fit in
    let p2 = first_fitting a_kind (the (codes "under") ∷ name ∷ the (codes "cc") ∷ []) p1.others p1.rest in
    let f2 = kind_of_fit p2.word p2.fit in
    let p3 = first_fitting (the (codes "under")) (name ∷ the (codes "cc") ∷ []) p2.others p2.rest in
    let f3 : p3.word ≡ codes "under" = is_the (codes "under") p3.word p3.fit in
    let p4 = first_fitting name (the (codes "cc") ∷ []) p3.others p3.rest in
    let f4 = object_of_fit p4.word p4.fit in
    let p5 = first_fitting (the (codes "cc")) ([]) p4.others p4.rest in
    let f5 : p5.word ≡ codes "cc" = is_the (codes "cc") p5.word p5.fit in
    let w5 : p4.others ≡ codes "cc" ∷ [] =
    p5.is ∙ ap (λ (w : List ℕ). w ∷ p5.others) f5 ∙ ap (λ (ws : List (List ℕ)). (codes "cc") ∷ ws) (no_others p5.others p5.rest) in
    let w4 : p3.others ≡ id_text f4.id.0 ∷ codes "cc" ∷ [] =
    p4.is ∙ ap (λ (w : List ℕ). w ∷ p4.others) f4.is ∙ ap (λ (ws : List (List ℕ)). (id_text f4.id.0) ∷ ws) (w5) in
    let w3 : p2.others ≡ codes "under" ∷ id_text f4.id.0 ∷ codes "cc" ∷ [] =
    p3.is ∙ ap (λ (w : List ℕ). w ∷ p3.others) f3 ∙ ap (λ (ws : List (List ℕ)). (codes "under") ∷ ws) (w4) in
    let w2 : p1.others ≡ kind_word f2.0 ∷ codes "under" ∷ id_text f4.id.0 ∷ codes "cc" ∷ [] =
    p2.is ∙ ap (λ (w : List ℕ). w ∷ p2.others) f2.1 ∙ ap (λ (ws : List (List ℕ)). (kind_word f2.0) ∷ ws) (w3) in
    let w1 : p0.others ≡ decimal (digits_value 10 p1.word) ∷ kind_word f2.0 ∷ codes "under" ∷ id_text f4.id.0 ∷ codes "cc" ∷ [] =
    p1.is ∙ ap (λ (w : List ℕ). w ∷ p1.others) f1.0 ∙ ap (λ (ws : List (List ℕ)). (decimal (digits_value 10 p1.word)) ∷ ws) (w2) in
    let w0 : words ≡ codes "create" ∷ decimal (digits_value 10 p1.word) ∷ kind_word f2.0 ∷ codes "under" ∷ id_text f4.id.0
    ∷ codes "cc" ∷ [] =
    p0.is ∙ ap (λ (w : List ℕ). w ∷ p0.others) f0 ∙ ap (λ (ws : List (List ℕ)). (codes "create") ∷ ws) (w1) in
    (world.Create (digits_value 10 p1.word) f2.0 (Some (f4.id, Cc)) None, w0, (omega arith, f4.object, tt))

world_cc_expires : (words : List (List ℕ)) → AllFit (the (codes "create") ∷ a_node ∷ a_kind ∷ the (codes "under") ∷ name
    ∷ the (codes "cc") ∷ the (codes "expires") ∷ a_time ∷ []) words
    → (e : Event) × (words ≡ world_words e) × IsWritten e
world_cc_expires words fit =
    let p0 = first_fitting (the (codes "create")) (a_node ∷ a_kind ∷ the (codes "under") ∷ name ∷ the (codes "cc")
    ∷ the (codes "expires") ∷ a_time ∷ []) words fit in
    let f0 : p0.word ≡ codes "create" = is_the (codes "create") p0.word p0.fit in
    let p1 = first_fitting a_node (a_kind ∷ the (codes "under") ∷ name ∷ the (codes "cc") ∷ the (codes "expires") ∷ a_time
    ∷ []) p0.others p0.rest in
    let f1 = number_of_fit 0 most_32 p1.word p1.fit in
    let p2 = first_fitting a_kind (the (codes "under") ∷ name ∷ the (codes "cc") ∷ the (codes "expires") ∷ a_time
    ∷ []) p1.others p1.rest in
    let f2 = kind_of_fit p2.word p2.fit in
    let p3 = first_fitting (the (codes "under")) (name ∷ the (codes "cc") ∷ the (codes "expires") ∷ a_time ∷ []) p2.others p2.rest in
    let f3 : p3.word ≡ codes "under" = is_the (codes "under") p3.word p3.fit in
    let p4 = first_fitting name (the (codes "cc") ∷ the (codes "expires") ∷ a_time ∷ []) p3.others p3.rest in
    let f4 = object_of_fit p4.word p4.fit in
    let p5 = first_fitting (the (codes "cc")) (the (codes "expires") ∷ a_time ∷ []) p4.others p4.rest in
    let f5 : p5.word ≡ codes "cc" = is_the (codes "cc") p5.word p5.fit in
    let p6 = first_fitting (the (codes "expires")) (a_time ∷ []) p5.others p5.rest in
    let f6 : p6.word ≡ codes "expires" = is_the (codes "expires") p6.word p6.fit in
    let p7 = first_fitting a_time ([]) p6.others p6.rest in
    let f7 = number_of_fit 0 most_32 p7.word p7.fit in
    let w7 : p6.others ≡ decimal (digits_value 10 p7.word) ∷ [] =
    p7.is ∙ ap (λ (w : List ℕ). w ∷ p7.others) f7.0
    ∙ ap (λ (ws : List (List ℕ)). (decimal (digits_value 10 p7.word)) ∷ ws) (no_others p7.others p7.rest) in
    let w6 : p5.others ≡ codes "expires" ∷ decimal (digits_value 10 p7.word) ∷ [] =
    p6.is ∙ ap (λ (w : List ℕ). w ∷ p6.others) f6 ∙ ap (λ (ws : List (List ℕ)). (codes "expires") ∷ ws) (w7) in
    let w5 : p4.others ≡ codes "cc" ∷ codes "expires" ∷ decimal (digits_value 10 p7.word) ∷ [] =
    p5.is ∙ ap (λ (w : List ℕ). w ∷ p5.others) f5 ∙ ap (λ (ws : List (List ℕ)). (codes "cc") ∷ ws) (w6) in
    let w4 : p3.others ≡ id_text f4.id.0 ∷ codes "cc" ∷ codes "expires" ∷ decimal (digits_value 10 p7.word) ∷ [] =
    p4.is ∙ ap (λ (w : List ℕ). w ∷ p4.others) f4.is ∙ ap (λ (ws : List (List ℕ)). (id_text f4.id.0) ∷ ws) (w5) in
    let w3 : p2.others ≡ codes "under" ∷ id_text f4.id.0 ∷ codes "cc" ∷ codes "expires" ∷ decimal (digits_value 10 p7.word) ∷ [] =
    p3.is ∙ ap (λ (w : List ℕ). w ∷ p3.others) f3 ∙ ap (λ (ws : List (List ℕ)). (codes "under") ∷ ws) (w4) in
    let w2 : p1.others ≡ kind_word f2.0 ∷ codes "under" ∷ id_text f4.id.0 ∷ codes "cc" ∷ codes "expires"
    ∷ decimal (digits_value 10 p7.word) ∷ [] =
    p2.is ∙ ap (λ (w : List ℕ). w ∷ p2.others) f2.1 ∙ ap (λ (ws : List (List ℕ)). (kind_word f2.0) ∷ ws) (w3) in
    let w1 : p0.others ≡ decimal (digits_value 10 p1.word) ∷ kind_word f2.0 ∷ codes "under" ∷ id_text f4.id.0 ∷ codes "cc"
    ∷ codes "expires" ∷ decimal (digits_value 10 p7.word) ∷ [] =
    p1.is ∙ ap (λ (w : List ℕ). w ∷ p1.others) f1.0 ∙ ap (λ (ws : List (List ℕ)). (decimal (digits_value 10 p1.word)) ∷ ws) (w2) in
    let w0 : words ≡ codes "create" ∷ decimal (digits_value 10 p1.word) ∷ kind_word f2.0 ∷ codes "under" ∷ id_text f4.id.0
    ∷ codes "cc" ∷ codes "expires" ∷ decimal (digits_value 10 p7.word) ∷ [] =
    p0.is ∙ ap (λ (w : List ℕ). w ∷ p0.others) f0 ∙ ap (λ (ws : List (List ℕ)). (codes "create") ∷ ws) (w1) in (
      world.Create (digits_value 10 p1.word) f2.0 (Some (f4.id, Cc)) (Some (digits_value 10 p7.word)),
      w0,
      (
        omega arith,
        f4.object,
        omega arith,
      ),
    )

world_join : (words : List (List ℕ)) → AllFit (the (codes "join") ∷ a_node ∷ a_protocol ∷ name ∷ []) words
    → (e : Event) × (words ≡ world_words e) × IsWritten e
world_join words fit =
    let p0 = first_fitting (the (codes "join")) (a_node ∷ a_protocol ∷ name ∷ []) words fit in
    let f0 : p0.word ≡ codes "join" = is_the (codes "join") p0.word p0.fit in
    let p1 = first_fitting a_node (a_protocol ∷ name ∷ []) p0.others p0.rest in
    let f1 = number_of_fit 0 most_32 p1.word p1.fit in
    let p2 = first_fitting a_protocol (name ∷ []) p1.others p1.rest in
    let f2 = protocol_of_fit p2.word p2.fit in
    let p3 = first_fitting name ([]) p2.others p2.rest in
    let f3 = object_of_fit p3.word p3.fit in
    let w3 : p2.others ≡ id_text f3.id.0 ∷ [] =
    p3.is ∙ ap (λ (w : List ℕ). w ∷ p3.others) f3.is
    ∙ ap (λ (ws : List (List ℕ)). (id_text f3.id.0) ∷ ws) (no_others p3.others p3.rest) in
    let w2 : p1.others ≡ protocol_word f2.0 ∷ id_text f3.id.0 ∷ [] =
    p2.is ∙ ap (λ (w : List ℕ). w ∷ p2.others) f2.1 ∙ ap (λ (ws : List (List ℕ)). (protocol_word f2.0) ∷ ws) (w3) in
    let w1 : p0.others ≡ decimal (digits_value 10 p1.word) ∷ protocol_word f2.0 ∷ id_text f3.id.0 ∷ [] =
    p1.is ∙ ap (λ (w : List ℕ). w ∷ p1.others) f1.0 ∙ ap (λ (ws : List (List ℕ)). (decimal (digits_value 10 p1.word)) ∷ ws) (w2) in
    let w0 : words ≡ codes "join" ∷ decimal (digits_value 10 p1.word) ∷ protocol_word f2.0 ∷ id_text f3.id.0 ∷ [] =
    p0.is ∙ ap (λ (w : List ℕ). w ∷ p0.others) f0 ∙ ap (λ (ws : List (List ℕ)). (codes "join") ∷ ws) (w1) in
    (world.Join (digits_value 10 p1.word) f2.0 f3.id, w0, (omega arith, f3.object))

world_tick : (words : List (List ℕ)) → AllFit (the (codes "tick") ∷ name ∷ []) words → (e : Event) × (words ≡ world_words e) × IsWritten e
world_tick words fit =
    let p0 = first_fitting (the (codes "tick")) (name ∷ []) words fit in
    let f0 : p0.word ≡ codes "tick" = is_the (codes "tick") p0.word p0.fit in
    let p1 = first_fitting name ([]) p0.others p0.rest in
    let f1 = object_of_fit p1.word p1.fit in
    let w1 : p0.others ≡ id_text f1.id.0 ∷ [] =
    p1.is ∙ ap (λ (w : List ℕ). w ∷ p1.others) f1.is
    ∙ ap (λ (ws : List (List ℕ)). (id_text f1.id.0) ∷ ws) (no_others p1.others p1.rest) in
    let w0 : words ≡ codes "tick" ∷ id_text f1.id.0 ∷ [] =
    p0.is ∙ ap (λ (w : List ℕ). w ∷ p0.others) f0 ∙ ap (λ (ws : List (List ℕ)). (codes "tick") ∷ ws) (w1) in
    (world.Tick f1.id, w0, f1.object)

world_deliver : (words : List (List ℕ)) → AllFit (the (codes "deliver") ∷ a_message ∷ []) words
    → (e : Event) × (words ≡ world_words e) × IsWritten e
world_deliver words fit =
    let p0 = first_fitting (the (codes "deliver")) (a_message ∷ []) words fit in
    let f0 : p0.word ≡ codes "deliver" = is_the (codes "deliver") p0.word p0.fit in
    let p1 = first_fitting a_message ([]) p0.others p0.rest in
    let f1 = number_of_fit 0 most_64 p1.word p1.fit in
    let w1 : p0.others ≡ decimal (digits_value 10 p1.word) ∷ [] =
    p1.is ∙ ap (λ (w : List ℕ). w ∷ p1.others) f1.0
    ∙ ap (λ (ws : List (List ℕ)). (decimal (digits_value 10 p1.word)) ∷ ws) (no_others p1.others p1.rest) in
    let w0 : words ≡ codes "deliver" ∷ decimal (digits_value 10 p1.word) ∷ [] =
    p0.is ∙ ap (λ (w : List ℕ). w ∷ p0.others) f0 ∙ ap (λ (ws : List (List ℕ)). (codes "deliver") ∷ ws) (w1) in
    (world.Deliver (digits_value 10 p1.word), w0, omega arith)

world_act : (words : List (List ℕ)) → AllFit (the (codes "act") ∷ name ∷ an_act ∷ []) words
    → (e : Event) × (words ≡ world_words e) × IsWritten e
world_act words fit =
    let p0 = first_fitting (the (codes "act")) (name ∷ an_act ∷ []) words fit in
    let f0 : p0.word ≡ codes "act" = is_the (codes "act") p0.word p0.fit in
    let p1 = first_fitting name (an_act ∷ []) p0.others p0.rest in
    let f1 = object_of_fit p1.word p1.fit in
    let p2 = first_fitting an_act ([]) p1.others p1.rest in
    let f2 = act_of_fit p2.word p2.fit in
    let w2 : p1.others ≡ act_word f2.0 ∷ [] =
    p2.is ∙ ap (λ (w : List ℕ). w ∷ p2.others) f2.1 ∙ ap (λ (ws : List (List ℕ)). (act_word f2.0) ∷ ws) (no_others p2.others p2.rest) in
    let w1 : p0.others ≡ id_text f1.id.0 ∷ act_word f2.0 ∷ [] =
    p1.is ∙ ap (λ (w : List ℕ). w ∷ p1.others) f1.is ∙ ap (λ (ws : List (List ℕ)). (id_text f1.id.0) ∷ ws) (w2) in
    let w0 : words ≡ codes "act" ∷ id_text f1.id.0 ∷ act_word f2.0 ∷ [] =
    p0.is ∙ ap (λ (w : List ℕ). w ∷ p0.others) f0 ∙ ap (λ (ws : List (List ℕ)). (codes "act") ∷ ws) (w1) in
    (world.Act f1.id f2.0, w0, f1.object)

world_ask : (words : List (List ℕ)) → AllFit (the (codes "ask") ∷ name ∷ []) words → (e : Event) × (words ≡ world_words e) × IsWritten e
world_ask words fit =
    let p0 = first_fitting (the (codes "ask")) (name ∷ []) words fit in
    let f0 : p0.word ≡ codes "ask" = is_the (codes "ask") p0.word p0.fit in
    let p1 = first_fitting name ([]) p0.others p0.rest in
    let f1 = object_of_fit p1.word p1.fit in
    let w1 : p0.others ≡ id_text f1.id.0 ∷ [] =
    p1.is ∙ ap (λ (w : List ℕ). w ∷ p1.others) f1.is
    ∙ ap (λ (ws : List (List ℕ)). (id_text f1.id.0) ∷ ws) (no_others p1.others p1.rest) in
    let w0 : words ≡ codes "ask" ∷ id_text f1.id.0 ∷ [] =
    p0.is ∙ ap (λ (w : List ℕ). w ∷ p0.others) f0 ∙ ap (λ (ws : List (List ℕ)). (codes "ask") ∷ ws) (w1) in
    (world.Ask f1.id, w0, f1.object)

world_decide : (words : List (List ℕ)) → AllFit (the (codes "decide") ∷ name ∷ a_verdict ∷ []) words
    → (e : Event) × (words ≡ world_words e) × IsWritten e
world_decide words fit =
    let p0 = first_fitting (the (codes "decide")) (name ∷ a_verdict ∷ []) words fit in
    let f0 : p0.word ≡ codes "decide" = is_the (codes "decide") p0.word p0.fit in
    let p1 = first_fitting name (a_verdict ∷ []) p0.others p0.rest in
    let f1 = object_of_fit p1.word p1.fit in
    let p2 = first_fitting a_verdict ([]) p1.others p1.rest in
    let f2 = verdict_of_fit p2.word p2.fit in
    let w2 : p1.others ≡ verdict_word f2.0 ∷ [] =
    p2.is ∙ ap (λ (w : List ℕ). w ∷ p2.others) f2.1
    ∙ ap (λ (ws : List (List ℕ)). (verdict_word f2.0) ∷ ws) (no_others p2.others p2.rest) in
    let w1 : p0.others ≡ id_text f1.id.0 ∷ verdict_word f2.0 ∷ [] =
    p1.is ∙ ap (λ (w : List ℕ). w ∷ p1.others) f1.is ∙ ap (λ (ws : List (List ℕ)). (id_text f1.id.0) ∷ ws) (w2) in
    let w0 : words ≡ codes "decide" ∷ id_text f1.id.0 ∷ verdict_word f2.0 ∷ [] =
    p0.is ∙ ap (λ (w : List ℕ). w ∷ p0.others) f0 ∙ ap (λ (ws : List (List ℕ)). (codes "decide") ∷ ws) (w1) in
    (world.Decide f1.id f2.0, w0, f1.object)

world_choose : (words : List (List ℕ)) → AllFit (the (codes "choose") ∷ name ∷ a_verdict ∷ []) words
    → (e : Event) × (words ≡ world_words e) × IsWritten e
world_choose words fit =
    let p0 = first_fitting (the (codes "choose")) (name ∷ a_verdict ∷ []) words fit in
    let f0 : p0.word ≡ codes "choose" = is_the (codes "choose") p0.word p0.fit in
    let p1 = first_fitting name (a_verdict ∷ []) p0.others p0.rest in
    let f1 = object_of_fit p1.word p1.fit in
    let p2 = first_fitting a_verdict ([]) p1.others p1.rest in
    let f2 = verdict_of_fit p2.word p2.fit in
    let w2 : p1.others ≡ verdict_word f2.0 ∷ [] =
    p2.is ∙ ap (λ (w : List ℕ). w ∷ p2.others) f2.1
    ∙ ap (λ (ws : List (List ℕ)). (verdict_word f2.0) ∷ ws) (no_others p2.others p2.rest) in
    let w1 : p0.others ≡ id_text f1.id.0 ∷ verdict_word f2.0 ∷ [] =
    p1.is ∙ ap (λ (w : List ℕ). w ∷ p1.others) f1.is ∙ ap (λ (ws : List (List ℕ)). (id_text f1.id.0) ∷ ws) (w2) in
    let w0 : words ≡ codes "choose" ∷ id_text f1.id.0 ∷ verdict_word f2.0 ∷ [] =
    p0.is ∙ ap (λ (w : List ℕ). w ∷ p0.others) f0 ∙ ap (λ (ws : List (List ℕ)). (codes "choose") ∷ ws) (w1) in
    (world.Choose f1.id f2.0, w0, f1.object)

world_complete : (words : List (List ℕ)) → AllFit (the (codes "complete") ∷ name ∷ []) words
    → (e : Event) × (words ≡ world_words e) × IsWritten e
world_complete words fit =
    let p0 = first_fitting (the (codes "complete")) (name ∷ []) words fit in
    let f0 : p0.word ≡ codes "complete" = is_the (codes "complete") p0.word p0.fit in
    let p1 = first_fitting name ([]) p0.others p0.rest in
    let f1 = object_of_fit p1.word p1.fit in
    let w1 : p0.others ≡ id_text f1.id.0 ∷ [] =
    p1.is ∙ ap (λ (w : List ℕ). w ∷ p1.others) f1.is
    ∙ ap (λ (ws : List (List ℕ)). (id_text f1.id.0) ∷ ws) (no_others p1.others p1.rest) in
    let w0 : words ≡ codes "complete" ∷ id_text f1.id.0 ∷ [] =
    p0.is ∙ ap (λ (w : List ℕ). w ∷ p0.others) f0 ∙ ap (λ (ws : List (List ℕ)). (codes "complete") ∷ ws) (w1) in
    (world.Complete f1.id, w0, f1.object)

world_finish : (words : List (List ℕ)) → AllFit (the (codes "finish") ∷ name ∷ []) words
    → (e : Event) × (words ≡ world_words e) × IsWritten e
world_finish words fit =
    let p0 = first_fitting (the (codes "finish")) (name ∷ []) words fit in
    let f0 : p0.word ≡ codes "finish" = is_the (codes "finish") p0.word p0.fit in
    let p1 = first_fitting name ([]) p0.others p0.rest in
    let f1 = object_of_fit p1.word p1.fit in
    let w1 : p0.others ≡ id_text f1.id.0 ∷ [] =
    p1.is ∙ ap (λ (w : List ℕ). w ∷ p1.others) f1.is
    ∙ ap (λ (ws : List (List ℕ)). (id_text f1.id.0) ∷ ws) (no_others p1.others p1.rest) in
    let w0 : words ≡ codes "finish" ∷ id_text f1.id.0 ∷ [] =
    p0.is ∙ ap (λ (w : List ℕ). w ∷ p0.others) f0 ∙ ap (λ (ws : List (List ℕ)). (codes "finish") ∷ ws) (w1) in
    (world.Finish f1.id, w0, f1.object)

world_leave : (words : List (List ℕ)) → AllFit (the (codes "leave") ∷ name ∷ a_leave ∷ []) words
    → (e : Event) × (words ≡ world_words e) × IsWritten e
world_leave words fit =
    let p0 = first_fitting (the (codes "leave")) (name ∷ a_leave ∷ []) words fit in
    let f0 : p0.word ≡ codes "leave" = is_the (codes "leave") p0.word p0.fit in
    let p1 = first_fitting name (a_leave ∷ []) p0.others p0.rest in
    let f1 = object_of_fit p1.word p1.fit in
    let p2 = first_fitting a_leave ([]) p1.others p1.rest in
    let f2 = leave_of_fit p2.word p2.fit in
    let w2 : p1.others ≡ leave_word f2.0 ∷ [] =
    p2.is ∙ ap (λ (w : List ℕ). w ∷ p2.others) f2.1 ∙ ap (λ (ws : List (List ℕ)). (leave_word f2.0) ∷ ws) (no_others p2.others p2.rest) in
    let w1 : p0.others ≡ id_text f1.id.0 ∷ leave_word f2.0 ∷ [] =
    p1.is ∙ ap (λ (w : List ℕ). w ∷ p1.others) f1.is ∙ ap (λ (ws : List (List ℕ)). (id_text f1.id.0) ∷ ws) (w2) in
    let w0 : words ≡ codes "leave" ∷ id_text f1.id.0 ∷ leave_word f2.0 ∷ [] =
    p0.is ∙ ap (λ (w : List ℕ). w ∷ p0.others) f0 ∙ ap (λ (ws : List (List ℕ)). (codes "leave") ∷ ws) (w1) in
    (world.Leave f1.id f2.0, w0, f1.object)

world_wait : (words : List (List ℕ)) → AllFit (the (codes "wait") ∷ a_time ∷ []) words
    → (e : Event) × (words ≡ world_words e) × IsWritten e
world_wait words fit =
    let p0 = first_fitting (the (codes "wait")) (a_time ∷ []) words fit in
    let f0 : p0.word ≡ codes "wait" = is_the (codes "wait") p0.word p0.fit in
    let p1 = first_fitting a_time ([]) p0.others p0.rest in
    let f1 = number_of_fit 0 most_32 p1.word p1.fit in
    let w1 : p0.others ≡ decimal (digits_value 10 p1.word) ∷ [] =
    p1.is ∙ ap (λ (w : List ℕ). w ∷ p1.others) f1.0
    ∙ ap (λ (ws : List (List ℕ)). (decimal (digits_value 10 p1.word)) ∷ ws) (no_others p1.others p1.rest) in
    let w0 : words ≡ codes "wait" ∷ decimal (digits_value 10 p1.word) ∷ [] =
    p0.is ∙ ap (λ (w : List ℕ). w ∷ p0.others) f0 ∙ ap (λ (ws : List (List ℕ)). (codes "wait") ∷ ws) (w1) in
    (world.Wait (digits_value 10 p1.word), w0, omega arith)

world_crash : (words : List (List ℕ)) → AllFit (the (codes "crash") ∷ a_node ∷ []) words
    → (e : Event) × (words ≡ world_words e) × IsWritten e
world_crash words fit =
    let p0 = first_fitting (the (codes "crash")) (a_node ∷ []) words fit in
    let f0 : p0.word ≡ codes "crash" = is_the (codes "crash") p0.word p0.fit in
    let p1 = first_fitting a_node ([]) p0.others p0.rest in
    let f1 = number_of_fit 0 most_32 p1.word p1.fit in
    let w1 : p0.others ≡ decimal (digits_value 10 p1.word) ∷ [] =
    p1.is ∙ ap (λ (w : List ℕ). w ∷ p1.others) f1.0
    ∙ ap (λ (ws : List (List ℕ)). (decimal (digits_value 10 p1.word)) ∷ ws) (no_others p1.others p1.rest) in
    let w0 : words ≡ codes "crash" ∷ decimal (digits_value 10 p1.word) ∷ [] =
    p0.is ∙ ap (λ (w : List ℕ). w ∷ p0.others) f0 ∙ ap (λ (ws : List (List ℕ)). (codes "crash") ∷ ws) (w1) in
    (world.Crash (digits_value 10 p1.word), w0, omega arith)

world_crashat : (words : List (List ℕ)) → AllFit (the (codes "crashat") ∷ a_node ∷ a_call ∷ an_image ∷ []) words
    → (e : Event) × (words ≡ world_words e) × IsWritten e
world_crashat words fit =
    let p0 = first_fitting (the (codes "crashat")) (a_node ∷ a_call ∷ an_image ∷ []) words fit in
    let f0 : p0.word ≡ codes "crashat" = is_the (codes "crashat") p0.word p0.fit in
    let p1 = first_fitting a_node (a_call ∷ an_image ∷ []) p0.others p0.rest in
    let f1 = number_of_fit 0 most_32 p1.word p1.fit in
    let p2 = first_fitting a_call (an_image ∷ []) p1.others p1.rest in
    let f2 = number_of_fit 1 most_32 p2.word p2.fit in
    let p3 = first_fitting an_image ([]) p2.others p2.rest in
    let f3 = image_of_fit p3.word p3.fit in
    let w3 : p2.others ≡ image_word f3.0 ∷ [] =
    p3.is ∙ ap (λ (w : List ℕ). w ∷ p3.others) f3.1 ∙ ap (λ (ws : List (List ℕ)). (image_word f3.0) ∷ ws) (no_others p3.others p3.rest) in
    let w2 : p1.others ≡ decimal (digits_value 10 p2.word) ∷ image_word f3.0 ∷ [] =
    p2.is ∙ ap (λ (w : List ℕ). w ∷ p2.others) f2.0 ∙ ap (λ (ws : List (List ℕ)). (decimal (digits_value 10 p2.word)) ∷ ws) (w3) in
    let w1 : p0.others ≡ decimal (digits_value 10 p1.word) ∷ decimal (digits_value 10 p2.word) ∷ image_word f3.0 ∷ [] =
    p1.is ∙ ap (λ (w : List ℕ). w ∷ p1.others) f1.0 ∙ ap (λ (ws : List (List ℕ)). (decimal (digits_value 10 p1.word)) ∷ ws) (w2) in
    let w0 : words ≡ codes "crashat" ∷ decimal (digits_value 10 p1.word) ∷ decimal (digits_value 10 p2.word) ∷ image_word f3.0 ∷ [] =
    p0.is ∙ ap (λ (w : List ℕ). w ∷ p0.others) f0 ∙ ap (λ (ws : List (List ℕ)). (codes "crashat") ∷ ws) (w1) in
    (world.CrashAt (digits_value 10 p1.word) (digits_value 10 p2.word) f3.0, w0, (omega arith, (omega arith, omega arith)))

world_fail : (words : List (List ℕ)) → AllFit (the (codes "fail") ∷ a_node ∷ a_call ∷ []) words
    → (e : Event) × (words ≡ world_words e) × IsWritten e
world_fail words fit =
    let p0 = first_fitting (the (codes "fail")) (a_node ∷ a_call ∷ []) words fit in
    let f0 : p0.word ≡ codes "fail" = is_the (codes "fail") p0.word p0.fit in
    let p1 = first_fitting a_node (a_call ∷ []) p0.others p0.rest in
    let f1 = number_of_fit 0 most_32 p1.word p1.fit in
    let p2 = first_fitting a_call ([]) p1.others p1.rest in
    let f2 = number_of_fit 1 most_32 p2.word p2.fit in
    let w2 : p1.others ≡ decimal (digits_value 10 p2.word) ∷ [] =
    p2.is ∙ ap (λ (w : List ℕ). w ∷ p2.others) f2.0
    ∙ ap (λ (ws : List (List ℕ)). (decimal (digits_value 10 p2.word)) ∷ ws) (no_others p2.others p2.rest) in
    let w1 : p0.others ≡ decimal (digits_value 10 p1.word) ∷ decimal (digits_value 10 p2.word) ∷ [] =
    p1.is ∙ ap (λ (w : List ℕ). w ∷ p1.others) f1.0 ∙ ap (λ (ws : List (List ℕ)). (decimal (digits_value 10 p1.word)) ∷ ws) (w2) in
    let w0 : words ≡ codes "fail" ∷ decimal (digits_value 10 p1.word) ∷ decimal (digits_value 10 p2.word) ∷ [] =
    p0.is ∙ ap (λ (w : List ℕ). w ∷ p0.others) f0 ∙ ap (λ (ws : List (List ℕ)). (codes "fail") ∷ ws) (w1) in
    (world.Fail (digits_value 10 p1.word) (digits_value 10 p2.word), w0, (omega arith, (omega arith, omega arith)))

world_open : (words : List (List ℕ)) → AllFit (the (codes "open") ∷ a_node ∷ []) words
    → (e : Event) × (words ≡ world_words e) × IsWritten e
world_open words fit =
    let p0 = first_fitting (the (codes "open")) (a_node ∷ []) words fit in
    let f0 : p0.word ≡ codes "open" = is_the (codes "open") p0.word p0.fit in
    let p1 = first_fitting a_node ([]) p0.others p0.rest in
    let f1 = number_of_fit 0 most_32 p1.word p1.fit in
    let w1 : p0.others ≡ decimal (digits_value 10 p1.word) ∷ [] =
    p1.is ∙ ap (λ (w : List ℕ). w ∷ p1.others) f1.0
    ∙ ap (λ (ws : List (List ℕ)). (decimal (digits_value 10 p1.word)) ∷ ws) (no_others p1.others p1.rest) in
    let w0 : words ≡ codes "open" ∷ decimal (digits_value 10 p1.word) ∷ [] =
    p0.is ∙ ap (λ (w : List ℕ). w ∷ p0.others) f0 ∙ ap (λ (ws : List (List ℕ)). (codes "open") ∷ ws) (w1) in
    (world.Open (digits_value 10 p1.word), w0, omega arith)

pub form_chosen : (words : List (List ℕ)) → SomeFits opening_forms words → (e : Form) × (words ≡ opening_words e) × IsPlayable e
unfolding opening_forms
form_chosen words (inl fit) = pair_chosen words fit
form_chosen words (inr (inl fit)) = nodes_chosen words fit
form_chosen words (inr (inr none)) = absurd none

pub pair_told : (words : List (List ℕ)) → SomeFits pair_forms words → (e : PairEvent) × (words ≡ pair_words e) × IsPairWritten e
unfolding pair_forms
pair_told words (inl fit) = act_told words fit
pair_told words (inr (inl fit)) = tick_told words fit
pair_told words (inr (inr (inl fit))) = choose_told words fit
pair_told words (inr (inr (inr (inl fit)))) = complete_told words fit
pair_told words (inr (inr (inr (inr (inl fit))))) = deliver_told words fit
pair_told words (inr (inr (inr (inr (inr none))))) = absurd none

pub world_told : (words : List (List ℕ)) → SomeFits world_forms words → (e : Event) × (words ≡ world_words e) × IsWritten e
unfolding world_forms
world_told words (inl fit) = world_create words fit
world_told words (inr (inl fit)) = world_expires words fit
world_told words (inr (inr (inl fit))) = world_under words fit
world_told words (inr (inr (inr (inl fit)))) = world_under_expires words fit
world_told words (inr (inr (inr (inr (inl fit))))) = world_cc words fit
world_told words (inr (inr (inr (inr (inr (inl fit)))))) = world_cc_expires words fit
world_told words (inr (inr (inr (inr (inr (inr (inl fit))))))) = world_join words fit
world_told words (inr (inr (inr (inr (inr (inr (inr (inl fit)))))))) = world_tick words fit
world_told words (inr (inr (inr (inr (inr (inr (inr (inr (inl fit))))))))) = world_deliver words fit
world_told words (inr (inr (inr (inr (inr (inr (inr (inr (inr (inl fit)))))))))) = world_act words fit
world_told words (inr (inr (inr (inr (inr (inr (inr (inr (inr (inr (inl fit))))))))))) = world_ask words fit
world_told words (inr (inr (inr (inr (inr (inr (inr (inr (inr (inr (inr (inl fit)))))))))))) = world_decide words fit
world_told words (inr (inr (inr (inr (inr (inr (inr (inr (inr (inr (inr (inr (inl fit))))))))))))) = world_choose words fit
world_told words (inr (inr (inr (inr (inr (inr (inr (inr (inr (inr (inr (inr (inr (inl fit)))))))))))))) = world_complete words fit
world_told words (inr (inr (inr (inr (inr (inr (inr (inr (inr (inr (inr (inr (inr (inr (inl fit))))))))))))))) = world_finish words fit
world_told words (inr (inr (inr (inr (inr (inr (inr (inr (inr (inr (inr (inr (inr (inr (inr
    (inl fit)))))))))))))))) = world_leave words fit
world_told words (inr (inr (inr (inr (inr (inr (inr (inr (inr (inr (inr (inr (inr (inr (inr (inr
    (inl fit))))))))))))))))) = world_wait words fit
world_told words (inr (inr (inr (inr (inr (inr (inr (inr (inr (inr (inr (inr (inr (inr (inr (inr (inr
    (inl fit)))))))))))))))))) = world_crash words fit
world_told words (inr (inr (inr (inr (inr (inr (inr (inr (inr (inr (inr (inr (inr (inr (inr (inr (inr (inr
    (inl fit))))))))))))))))))) = world_crashat words fit
world_told words (inr (inr (inr (inr (inr (inr (inr (inr (inr (inr (inr (inr (inr (inr (inr (inr (inr (inr (inr
    (inl fit)))))))))))))))))))) = world_fail words fit
world_told words (inr (inr (inr (inr (inr (inr (inr (inr (inr (inr (inr (inr (inr (inr (inr (inr (inr (inr (inr (inr
    (inl fit))))))))))))))))))))) = world_open words fit
world_told words (inr (inr (inr (inr (inr (inr (inr (inr (inr (inr (inr (inr (inr (inr (inr (inr (inr (inr (inr (inr
    (inr none))))))))))))))))))))) = absurd none
