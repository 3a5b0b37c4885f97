use Rattle.std.proofs.Common.{◌≡◌, ◌∙◌, None, Option, Some, refl, ap, sym}
use Rattle.ba_core.specs.declared.identifiers.Id.{Id}
use Rattle.ba_node_addresses.proofs.PathLemmas.{path_its, text_found}
use Rattle.ba_node_addresses.specs.declared.paths.ObjectPath.{ObjectPath}
use Rattle.ba_node_steps.specs.Routing.{identifier_of_text}
use Rattle.ba_node_addresses.proofs.paths.path_at.Goals as goal

pub returns-in_err-id-clause-found : goal.returns-in_err-id-clause-found
returns-in_err-id-clause-found c = λ id small is.
    let found : identifier_of_text c.in_ok-text.text.now ≡ Some id =
    text_found c.args.path.now c.word_of.result.now c.in_ok-text.text.now c.args.endpoint id c.word_of.ensures small
    c.in_ok-text.ensures.found is in
    let none : ◌≡◌ {A = Option Id} None (identifier_of_text c.in_ok-text.text.now) = c.in_err-id.ensures in
    absurd cc

pub returns-clause-its : goal.returns-clause-its
returns-clause-its c =
    let whole = path_its c.args.path.now c.word_of.result.now c.in_ok-text.text.now c.args.endpoint c.in_ok-id.id c.word_of.ensures
    c.in_ok-text.ensures.its c.in_ok-id.ensures in
    (refl, whole)

pub returns-clause-found : goal.returns-clause-found
returns-clause-found c = λ id small is.
    let found : identifier_of_text c.in_ok-text.text.now ≡ Some id =
    text_found c.args.path.now c.word_of.result.now c.in_ok-text.text.now c.args.endpoint id c.word_of.ensures small
    c.in_ok-text.ensures.found is in
    let read : ◌≡◌ {A = Option Id} (Some c.in_ok-id.id) (Some id) = c.in_ok-id.ensures ∙ found in
    let same : c.in_ok-id.id ≡ id = cc in
    ap (λ (x : Id). Some (record { endpoint = c.args.endpoint; id = x })) same
