use Rattle.std.proofs.Common.{◌≡◌, ◌∙◌, false, not, ◌&&◌, eqb, List, ℕ, [], ◌++◌, drop, length, sym, ap, subst}
use Rattle.std.specs.Prelude.{is_ok}
use Rattle.std.proofs.lemmas.Result.{err_from_is_err_and}
use Rattle.server_schema.specs.Definitions.{definitions_in}
use Rattle.dir_conf.specs.inner.Views.{defined_view}
use Rattle.server_schema.specs.declared.definition.Definition.{Definition}
use Rattle.server_schema.specs.declared.alike.Meaning.{Meaning}
use Rattle.server_schema.specs.declared.taking.Candidate.{Candidate}
use Rattle.dir_conf.specs.Configurations.{Defined, definitions_of}
use Rattle.server_schema.specs.Growth.{end_of, comment_of, Grows, definitions_of_all}
use Rattle.server_schema.specs.Alike.{meanings_of}
use Rattle.server_schema.specs.Stated.{stated_in}
use Rattle.server_schema.specs.Transfers.{Gathers, no_definition, NeedNoRemark, SayBuiltIn, IsRefusedFor}
use Rattle.server_schema.proofs.Transferring.{transferred, told, still_read, never_refused}
use Rattle.server_schema.proofs.transfer.transfer_schema.Goals as goal

pub returns-in_err-grown_defined-clause-transferred : goal.returns-in_err-grown_defined-clause-transferred
returns-in_err-grown_defined-clause-transferred c =
    let conf = c.args.conf.now in
    let read = still_read conf c.in_ok-text.text.items c.in_ok-text.ensures (ap is_ok c.in_ok-defined.ensures) in
    let why = subst (λ (t : List ℕ). IsRefusedFor t c.in_err-grown_defined.field-0.0) c.as_slice.ensures.value c.in_err-grown_defined.ensures in
    let p = err_from_is_err_and c.from_residual-in_err-grown_defined.result c.from_residual-in_err-grown_defined.ensures.1 in
    rw (p.1, p.2) (never_refused conf c.grown.new.text.items c.in_err-grown_defined.field-0.0 (c.in_ok-rest.ensures.grows.read read) why)

-- what is known of what was called
module _ (c : goal.After-drop-defined-4) where
  abbrev conf : List ℕ
  conf = c.args.conf.now

  abbrev defined : Defined
  defined = defined_view c.in_ok-defined.defined

  abbrev wanted : List Definition
  wanted = definitions_of_all c.in_ok-candidates.candidates.items

  abbrev text : List ℕ
  text = c.grown.new.text.items

  abbrev rest : List Candidate
  rest = c.in_ok-rest.rest.left.items

  gathers : Gathers defined (meanings_of (stated_in conf)) (definitions_in c.args.source.now) wanted
  gathers =
      subst (λ (ds : List Definition). Gathers defined (meanings_of (stated_in conf)) ds wanted) (c.deref-2.ensures.value ∙ c.in_ok-definitions.ensures)
      (subst (λ (ms : List Meaning). Gathers defined ms c.deref-2.result.now wanted) (c.deref.ensures.value ∙ c.in_ok-stated.ensures) c.in_ok-candidates.ensures.gathers)

  grows : Grows (conf ++ end_of conf) wanted text (definitions_of_all rest) c.in_ok-rest.rest.is_changed
  grows = subst (λ (t : List ℕ). Grows t wanted text (definitions_of_all rest) c.in_ok-rest.rest.is_changed) c.in_ok-text.ensures c.in_ok-rest.ensures.grows

  none : definitions_in c.args.source.now ≡ [] → c.in_ok-remarks.remarks.items ≡ comment_of no_definition
  none h = c.in_ok-remarks.ensures.none (c.deref-3.ensures.value ∙ c.in_ok-definitions.ensures ∙ h)

  put : c.extend_from_slice.new.self.items ≡ text ++ c.in_ok-remarks.remarks.items
  put = c.in_ok-extend_from_slice.ensures.items ∙ ap (λ (t : List ℕ). text ++ t) c.deref-5.ensures.value

  behind : c.in_ok-lines.lines.items ≡ drop (length conf) c.extend_from_slice.new.self.items
  behind = c.in_ok-lines.ensures ∙ ap (drop (length conf)) c.as_slice-3.ensures.value

pub returns-clause-transferred : goal.returns-clause-transferred
returns-clause-transferred c =
    transferred c.args.source.now (conf c) (text c) _ _ (defined c) (wanted c) (rest c) _ _ c.in_ok-defined.ensures (gathers c) (grows c) c.in_ok-rest.ensures.ends
    c.in_ok-remarks.ensures.comments (none c) (put c) (behind c)

pub returns-clause-told : goal.returns-clause-told
returns-clause-told c =
    let seen = λ (t : List ℕ) (ls : List Candidate). NeedNoRemark (defined_view c.in_ok-grown_defined.grown_defined) (meanings_of (stated_in t)) ls in
    let whole = λ (none : c.in_ok-remarks.remarks.items ≡ []).
    subst (λ (t : List ℕ). seen t (rest c)) c.as_slice-2.ensures.value
    (subst (λ (ls : List Candidate). seen c.as_slice-2.result.now ls) c.deref-4.ensures.value (c.in_ok-remarks.ensures.whole none)) in
    let built_in = λ (none : c.in_ok-remarks.remarks.items ≡ []).
    subst (λ (ds : List Definition). SayBuiltIn (defined_view c.in_ok-grown_defined.grown_defined) ds) (c.deref-3.ensures.value ∙ c.in_ok-definitions.ensures) (c.in_ok-remarks.ensures.built_in none) in
    told c.args.source.now (conf c) (text c) _ _ (defined c) (wanted c) (rest c) _ _ c.in_ok-defined.ensures (gathers c) (grows c) c.in_ok-rest.ensures.ends
    c.in_ok-remarks.ensures.comments (none c) (put c) (behind c)
    (defined_view c.in_ok-grown_defined.grown_defined)
    (ap definitions_of (sym c.as_slice.ensures.value) ∙ c.in_ok-grown_defined.ensures)
    (c.in_ok-rest.ensures.marks false c.in_ok-candidates.ensures.fresh) whole built_in _
    (c.is_whole-is_whole.ensures ∙ ap (λ (bs : List ℕ). eqb (length bs) 0 && not c.in_ok-rest.rest.is_changed) c.deref-6.ensures.value)
