-- A field of an attribute type is read exactly where it stands.
use Rattle.std.proofs.Common.{◌≡◌, ℕ, Bool, true, false, cond, List, [], ◌∷◌, ◌++◌, Option, Some, None, refl, ap, subst, ◌∙◌, arith}
use Rattle.std.specs.Prelude.{codes}
use Rattle.definitions.specs.declared.element.Sort.TheVariants as sorts
use Rattle.definitions.specs.declared.element.ElementField.{ElementField}
use Rattle.definitions.specs.declared.type_field.Reference.{Reference}
use Rattle.definitions.specs.declared.type_field.Reference.TheVariants as references
use Rattle.definitions.specs.declared.type_field.Flag.{Flag}
use Rattle.definitions.specs.declared.type_field.Flag.TheVariants as flags
use Rattle.definitions.specs.declared.type_field.Usage.{Usage}
use Rattle.definitions.specs.declared.type_field.Usage.TheVariants as usages
use Rattle.definitions.specs.declared.type_field.TypeField.{TypeField}
use Rattle.definitions.specs.declared.type_field.TypeField.TheVariants as fields
use Rattle.definitions.specs.Words.{◌>>>◌, Cut, word_at, plain_or_quoted_at, plain_or_named_at}
use Rattle.definitions.specs.Elements as elements
use Rattle.definitions.specs.Elements.{is_word, element_field}
use Rattle.definitions.specs.TypeFields.{Read, reference_of, flag_of, usage_of, syntax_oid, without_length, referred_at, refer, usage_field, of_element, other_field, or_flag, or_reference, field_of, field_at}
use Rattle.definitions.specs.Tokens.{Token, Word, Begins, AreTokens}
use Rattle.definitions.specs.Grammar.{Headed, IsNothing, IsName, IsElementField}
use Rattle.definitions.specs.TypeGrammar.{reference_word, flag_word, usage_word, IsSyntax, IsReferred, IsReference, IsTypeField}
use Rattle.definitions.proofs.There.{IfThere, chosen, bound, there, weaker}
use Rattle.definitions.proofs.Tokenized.{EitherStands, NameStands, shorter, word_found, word_only, either_found, either_only, name_found, named_only}
use Rattle.definitions.proofs.Keywords.{lowered, ElementWord, element_word_apart}
use Rattle.definitions.proofs.ElementFields.{FieldReads, Headline, headline, no_end, nothing_more, ElementReads, element_found, Stands, element_only}
use Rattle.definitions.proofs.SyntaxOids.{syntax_found, syntax_only}

-- ---- words

same_reference : (keyword word : List ℕ) → is_word keyword word ≡ true → reference_of word ≡ reference_of keyword
unfolding reference_of
same_reference keyword word h = rw (lowered keyword word h) refl

same_flag : (keyword word : List ℕ) → is_word keyword word ≡ true → flag_of word ≡ flag_of keyword
unfolding flag_of
same_flag keyword word h = rw (lowered keyword word h) refl

same_usage : (keyword word : List ℕ) → is_word keyword word ≡ true → usage_of word ≡ usage_of keyword
unfolding usage_of
same_usage keyword word h = rw (lowered keyword word h) refl

reference_known : (reference : Reference) → reference_of (reference_word reference) ≡ Some reference
unfolding reference_of
reference_known references.Superior = refl
reference_known references.Equality = refl
reference_known references.Ordering = refl
reference_known references.Substrings = refl
reference_known references.Syntax = refl

flag_known : (flag : Flag) → flag_of (flag_word flag) ≡ Some flag
unfolding flag_of
flag_known flags.SingleValue = refl
flag_known flags.Collective = refl
flag_known flags.NoUserModification = refl

flag_no_reference : (flag : Flag) → reference_of (flag_word flag) ≡ None
unfolding reference_of
flag_no_reference flags.SingleValue = refl
flag_no_reference flags.Collective = refl
flag_no_reference flags.NoUserModification = refl

usage_known : (usage : Usage) → usage_of (usage_word usage) ≡ Some usage
unfolding usage_of
usage_known usages.UserApplications = refl
usage_known usages.DirectoryOperation = refl
usage_known usages.DistributedOperation = refl
usage_known usages.DsaOperation = refl

usage_no_reference : reference_of (codes "USAGE") ≡ None
unfolding reference_of
usage_no_reference = refl

usage_no_flag : flag_of (codes "USAGE") ≡ None
unfolding flag_of
usage_no_flag = refl

element_no_reference : (word : List ℕ) → ElementWord word → reference_of word ≡ None
unfolding reference_of
element_no_reference word which =
    (λ i. cond (element_word_apart word which (codes "SUP") refl refl refl refl i) (Some references.Superior)
    (cond (element_word_apart word which (codes "EQUALITY") refl refl refl refl i) (Some references.Equality)
    (cond (element_word_apart word which (codes "ORDERING") refl refl refl refl i) (Some references.Ordering)
    (cond (element_word_apart word which (codes "SUBSTR") refl refl refl refl i) (Some references.Substrings)
    (cond (element_word_apart word which (codes "SYNTAX") refl refl refl refl i) (Some references.Syntax) None)))))

element_no_flag : (word : List ℕ) → ElementWord word → flag_of word ≡ None
unfolding flag_of
element_no_flag word which =
    (λ i. cond (element_word_apart word which (codes "SINGLE-VALUE") refl refl refl refl i) (Some flags.SingleValue)
    (cond (element_word_apart word which (codes "COLLECTIVE") refl refl refl refl i) (Some flags.Collective)
    (cond (element_word_apart word which (codes "NO-USER-MODIFICATION") refl refl refl refl i) (Some flags.NoUserModification) None)))

-- ---- what stands there is read

module _ (text word rest : List ℕ) (begins : Begins text (Word word) rest) where
  at_word : field_at text ≡ field_of (word, rest)
  unfolding field_at
  at_word = ap (λ (o : Option Cut). o >>> field_of) (word_found text word rest begins)

  abbrev inner : Option Read
  inner = or_flag (flag_of word) rest (other_field word rest)

  at_reference : (reference : Reference) → reference_of word ≡ Some reference → field_at text ≡ (referred_at reference rest >>> refer reference)
  at_reference reference e = at_word ∙ ap (λ (o : Option Reference). or_reference o rest inner) e

  at_flag : (flag : Flag) → reference_of word ≡ None → flag_of word ≡ Some flag → field_at text ≡ Some (fields.Flag flag, rest)
  at_flag flag e f = at_word ∙ (λ i. or_reference (e i) rest (or_flag (f i) rest (other_field word rest)))

  at_other : reference_of word ≡ None → flag_of word ≡ None → field_at text ≡ other_field word rest
  at_other e f = at_word ∙ (λ i. or_reference (e i) rest (or_flag (f i) rest (other_field word rest)))

  at_usage : reference_of word ≡ None → flag_of word ≡ None → is_word (codes "USAGE") word ≡ true → field_at text ≡ (word_at rest >>> usage_field)
  unfolding other_field
  at_usage e f u = at_other e f ∙ ap (λ (t : Bool). cond t (word_at rest >>> usage_field) (element_field sorts.AttributeType word rest >>> of_element)) u

  at_element : reference_of word ≡ None → flag_of word ≡ None → is_word (codes "USAGE") word ≡ false → field_at text ≡ (element_field sorts.AttributeType word rest >>> of_element)
  unfolding other_field
  at_element e f u = at_other e f ∙ ap (λ (t : Bool). cond t (word_at rest >>> usage_field) (element_field sorts.AttributeType word rest >>> of_element)) u

abbrev TypeReads : TypeField → List ℕ → List Token → Type 0
TypeReads field text tokens = FieldReads field_at field text tokens

element_type : (field : ElementField) (text : List ℕ) (tokens : List Token) → ElementReads sorts.AttributeType field text tokens → TypeReads (fields.Element field) text tokens
element_type field text tokens e =
    record {
      reads = record {
        rest = e.reads.rest;
        is = at_element text e.word e.rest e.begins (element_no_reference e.word e.which) (element_no_flag e.word e.which) (element_word_apart e.word e.which (codes "USAGE") refl refl refl refl)
            ∙ ap (λ (o : Option elements.Read). o >>> of_element) e.reads.is;
        fewer = e.reads.fewer;
        left = e.reads.left;
      };
      on = no_end text e.word e.rest e.begins;
    }

flag_type : (flag : Flag) (text : List ℕ) (tokens : List Token) → Headline (flag_word flag) IsNothing tokens text → TypeReads (fields.Flag flag) text tokens
flag_type flag text tokens h =
    record {
      reads = nothing_more (field_at text) (fields.Flag flag) text h.word h.rest h.front tokens h.begins h.form h.left
          (at_flag text h.word h.rest h.begins flag (same_reference (flag_word flag) h.word h.same ∙ flag_no_reference flag) (same_flag (flag_word flag) h.word h.same ∙ flag_known flag));
      on = no_end text h.word h.rest h.begins;
    }

-- one token is read, and behind it come the others
abbrev Referred : Reference → List ℕ → List ℕ → List ℕ → Type 0
Referred reference text name rest = referred_at reference text ≡ Some (name, rest)

syntax_at : (text oid rest : List ℕ) (token : Token) → IsReferred references.Syntax oid token → Begins text token rest → Referred references.Syntax text oid rest
unfolding referred_at
syntax_at text oid rest token is begins =
    ap (λ (o : Option Cut). o >>> without_length) (either_found text is.0 rest token is.2 begins)
    ∙ ap (λ (o : Option (List ℕ)). o >>> λ oid. Some (oid, rest)) (syntax_found oid is.0 is.1)

referred_found : (reference : Reference) (text name rest : List ℕ) (token : Token) → IsReferred reference name token → Begins text token rest → Referred reference text name rest
unfolding referred_at
referred_found references.Superior text name rest token is begins = name_found true text name rest token is begins
referred_found references.Equality text name rest token is begins = name_found true text name rest token is begins
referred_found references.Ordering text name rest token is begins = name_found true text name rest token is begins
referred_found references.Substrings text name rest token is begins = name_found true text name rest token is begins
referred_found references.Syntax text name rest token is begins = syntax_at text name rest token is begins

reference_type : (reference : Reference) (name text : List ℕ) (tokens : List Token) → Headline (reference_word reference) (IsReference reference name) tokens text → TypeReads (fields.Reference reference name) text tokens
reference_type reference name text tokens h =
    let form = h.form in
    let k = subst (λ (ts : List Token). AreTokens (ts ++ tokens) h.rest) form.2 h.left in
    record {
      reads = record {
        rest = k.0;
        is = at_reference text h.word h.rest h.begins reference (same_reference (reference_word reference) h.word h.same ∙ reference_known reference)
            ∙ ap (λ (o : Option Cut). o >>> refer reference) (referred_found reference h.rest name k.0 form.0 form.1 k.1);
        fewer = omega (arith, shorter text (Word h.word) h.rest h.begins, shorter h.rest form.0 k.0 k.1);
        left = k.2;
      };
      on = no_end text h.word h.rest h.begins;
    }

abbrev used : List ℕ → Option Usage → Option Read
used rest usage = usage >>> λ usage. Some (fields.Usage usage, rest)

usage_type : (usage : Usage) (text : List ℕ) (tokens : List Token) → Headline (codes "USAGE") (Headed (usage_word usage) IsNothing) tokens text → TypeReads (fields.Usage usage) text tokens
usage_type usage text tokens h =
    let k = headline (usage_word usage) IsNothing h.front tokens h.rest h.form h.left in
    record {
      reads = record {
        rest = k.rest;
        is = at_usage text h.word h.rest h.begins (same_reference (codes "USAGE") h.word h.same ∙ usage_no_reference) (same_flag (codes "USAGE") h.word h.same ∙ usage_no_flag) h.same
            ∙ ap (λ (o : Option Cut). o >>> usage_field) (word_found h.rest k.word k.rest k.begins)
            ∙ ap (used k.rest) (same_usage (usage_word usage) k.word k.same ∙ usage_known usage);
        fewer = omega (arith, shorter text (Word h.word) h.rest h.begins, shorter h.rest (Word k.word) k.rest k.begins);
        left = subst (λ (ts : List Token). AreTokens (ts ++ tokens) k.rest) k.form k.left;
      };
      on = no_end text h.word h.rest h.begins;
    }

pub type_field_found : (field : TypeField) (front tokens : List Token) (text : List ℕ) → IsTypeField field front → AreTokens (front ++ tokens) text → FieldReads field_at field text tokens
type_field_found (fields.Element field) front tokens text is h = element_type field text tokens (element_found sorts.AttributeType field front tokens text is h)
type_field_found (fields.Flag flag) front tokens text is h = flag_type flag text tokens (headline (flag_word flag) IsNothing front tokens text is h)
type_field_found (fields.Reference reference name) front tokens text is h = reference_type reference name text tokens (headline (reference_word reference) (IsReference reference name) front tokens text is h)
type_field_found (fields.Usage usage) front tokens text is h = usage_type usage text tokens (headline (codes "USAGE") (Headed (usage_word usage) IsNothing) front tokens text is h)

-- ---- what is read stands there

reference_is : (word : List ℕ) → IfThere (λ reference. is_word (reference_word reference) word ≡ true) (reference_of word)
unfolding reference_of
reference_is word =
    let P = λ (reference : Reference). is_word (reference_word reference) word ≡ true in
    chosen P (is_word (codes "SUP") word) (Some references.Superior) _ (λ e. e) (λ e.
    chosen P (is_word (codes "EQUALITY") word) (Some references.Equality) _ (λ e. e) (λ e.
    chosen P (is_word (codes "ORDERING") word) (Some references.Ordering) _ (λ e. e) (λ e.
    chosen P (is_word (codes "SUBSTR") word) (Some references.Substrings) _ (λ e. e) (λ e.
    chosen P (is_word (codes "SYNTAX") word) (Some references.Syntax) None (λ e. e) (λ e. tt)))))

flag_is : (word : List ℕ) → IfThere (λ flag. is_word (flag_word flag) word ≡ true) (flag_of word)
unfolding flag_of
flag_is word =
    let P = λ (flag : Flag). is_word (flag_word flag) word ≡ true in
    chosen P (is_word (codes "SINGLE-VALUE") word) (Some flags.SingleValue) _ (λ e. e) (λ e.
    chosen P (is_word (codes "COLLECTIVE") word) (Some flags.Collective) _ (λ e. e) (λ e.
    chosen P (is_word (codes "NO-USER-MODIFICATION") word) (Some flags.NoUserModification) None (λ e. e) (λ e. tt)))

usage_is : (word : List ℕ) → IfThere (λ usage. is_word (usage_word usage) word ≡ true) (usage_of word)
unfolding usage_of
usage_is word =
    let P = λ (usage : Usage). is_word (usage_word usage) word ≡ true in
    chosen P (is_word (codes "userApplications") word) (Some usages.UserApplications) _ (λ e. e) (λ e.
    chosen P (is_word (codes "directoryOperation") word) (Some usages.DirectoryOperation) _ (λ e. e) (λ e.
    chosen P (is_word (codes "distributedOperation") word) (Some usages.DistributedOperation) _ (λ e. e) (λ e.
    chosen P (is_word (codes "dSAOperation") word) (Some usages.DsaOperation) None (λ e. e) (λ e. tt))))

record ReferredStands (reference : Reference) (text : List ℕ) (w : Cut) : Type 0 where
  token : Token
  is : IsReferred reference w.0 token
  begins : Begins text token w.1

syntax_stands : (text : List ℕ) (part : Cut) → EitherStands text part → IfThere (ReferredStands references.Syntax text) (without_length part)
syntax_stands text part stands = by (syntax_oid part.0) (syntax_only part.0) where
  by : (oid : Option (List ℕ)) → IfThere (λ oid. IsSyntax oid part.0) oid → IfThere (ReferredStands references.Syntax text) (oid >>> λ oid. Some (oid, part.1))
  by None h = tt
  by (Some oid) h = record { token = stands.token; is = (part.0, h, stands.is); begins = stands.begins }

name_stands : (reference : Reference) (text : List ℕ) → ((name : List ℕ) (token : Token) → IsName true name token → IsReferred reference name token) → IfThere (ReferredStands reference text) (plain_or_named_at text)
name_stands reference text as_name = weaker (NameStands true text) (ReferredStands reference text) (plain_or_named_at text) (λ w stands.
    record { token = stands.token; is = as_name w.0 stands.token stands.is; begins = stands.begins }) (named_only text)

referred_only : (reference : Reference) (text : List ℕ) → IfThere (ReferredStands reference text) (referred_at reference text)
unfolding referred_at
referred_only references.Superior text = name_stands references.Superior text (λ name token is. is)
referred_only references.Equality text = name_stands references.Equality text (λ name token is. is)
referred_only references.Ordering text = name_stands references.Ordering text (λ name token is. is)
referred_only references.Substrings text = name_stands references.Substrings text (λ name token is. is)
referred_only references.Syntax text =
    bound (ReferredStands references.Syntax text) (plain_or_quoted_at text) without_length (λ part e.
    syntax_stands text part (there (EitherStands text) (plain_or_quoted_at text) part e (either_only text)))

module _ (text : List ℕ) (w : Cut) (begins : Begins text (Word w.0) w.1) where
  abbrev Field : Read → Type 0
  Field read = Stands IsTypeField text read

  by_name : (reference : Reference) (name : Cut) → is_word (reference_word reference) w.0 ≡ true → ReferredStands reference w.1 name → Stands IsTypeField text (fields.Reference reference name.0, name.1)
  by_name reference name same stands =
      record {
        front = Word w.0 ∷ stands.token ∷ [];
        is = record { text = w.0; rest = stands.token ∷ []; tokens_are = refl; same = same; behind = (stands.token, stands.is, refl) };
        behind = λ tokens left. (w.1, begins, (name.1, stands.begins, left));
      }

  by_usage : (part : Cut) → is_word (codes "USAGE") w.0 ≡ true → Begins w.1 (Word part.0) part.1 → (usage : Option Usage) → IfThere (λ usage. is_word (usage_word usage) part.0 ≡ true) usage → IfThere Field (used part.1 usage)
  by_usage part same stands None h = tt
  by_usage part same stands (Some usage) h =
      record {
        front = Word w.0 ∷ Word part.0 ∷ [];
        is = record { text = w.0; rest = Word part.0 ∷ []; tokens_are = refl; same = same; behind = record { text = part.0; rest = []; tokens_are = refl; same = h; behind = refl } };
        behind = λ tokens left. (w.1, begins, (part.1, stands, left));
      }

  by_element : (o : Option elements.Read) → IfThere (Stands (IsElementField sorts.AttributeType) text) o → IfThere Field (o >>> of_element)
  by_element None h = tt
  by_element (Some read) h = record { front = h.front; is = h.is; behind = h.behind }

  other_only : IfThere Field (other_field w.0 w.1)
  unfolding other_field
  other_only =
      chosen Field (is_word (codes "USAGE") w.0) (word_at w.1 >>> usage_field) (element_field sorts.AttributeType w.0 w.1 >>> of_element)
      (λ e. bound Field (word_at w.1) usage_field (λ part f. by_usage part e (there (λ (v : Cut). Begins w.1 (Word v.0) v.1) (word_at w.1) part f (word_only w.1)) (usage_of part.0) (usage_is part.0)))
      (λ e. by_element (element_field sorts.AttributeType w.0 w.1) (element_only sorts.AttributeType text w.0 w.1 begins))

  by_flag : (flag : Option Flag) → IfThere (λ flag. is_word (flag_word flag) w.0 ≡ true) flag → IfThere Field (or_flag flag w.1 (other_field w.0 w.1))
  by_flag None h = other_only
  by_flag (Some flag) h =
      record {
        front = Word w.0 ∷ [];
        is = record { text = w.0; rest = []; tokens_are = refl; same = h; behind = refl };
        behind = λ tokens left. (w.1, begins, left);
      }

  by_reference : (reference : Option Reference) → IfThere (λ reference. is_word (reference_word reference) w.0 ≡ true) reference
      → IfThere Field (or_reference reference w.1 (or_flag (flag_of w.0) w.1 (other_field w.0 w.1)))
  by_reference None h = by_flag (flag_of w.0) (flag_is w.0)
  by_reference (Some reference) h =
      bound Field (referred_at reference w.1) (refer reference) (λ name e.
      by_name reference name h (there (ReferredStands reference w.1) (referred_at reference w.1) name e (referred_only reference w.1)))

  pub at_word_only : IfThere Field (field_of w)
  at_word_only = by_reference (reference_of w.0) (reference_is w.0)

pub type_field_only : (text : List ℕ) → IfThere (Stands IsTypeField text) (field_at text)
unfolding field_at
type_field_only text =
    bound (Stands IsTypeField text) (word_at text) field_of (λ w e.
    at_word_only text w (there (λ (v : Cut). Begins text (Word v.0) v.1) (word_at text) w e (word_only text)))
