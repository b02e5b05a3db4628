-- A field of an object class is read exactly where it stands.
use Rattle.std.proofs.Common.{◌≡◌, sym, Bool, subst, ℕ, true, cond, List, [], ◌∷◌, ◌++◌, Option, Some, None, refl, ap, ◌∙◌}
use Rattle.std.specs.Prelude.{codes}
use Rattle.definitions.specs.declared.element.Sort.TheVariants as sorts
use Rattle.definitions.specs.declared.element.ElementField.{ElementField}
use Rattle.definitions.specs.declared.class_definition.ClassList.{ClassList}
use Rattle.definitions.specs.declared.class_definition.ClassList.TheVariants as lists
use Rattle.base.specs.declared.class_kind.ClassKind.{ClassKind}
use Rattle.base.specs.declared.class_kind.ClassKind.TheVariants as kinds
use Rattle.definitions.specs.declared.class_definition.ClassField.{ClassField}
use Rattle.definitions.specs.declared.class_definition.ClassField.TheVariants as fields
use Rattle.definitions.specs.Words.{◌>>>◌, Cut, word_at}
use Rattle.definitions.specs.Texts.{Cuts, names_at}
use Rattle.definitions.specs.Elements as elements
use Rattle.definitions.specs.Elements.{is_word, element_field}
use Rattle.definitions.specs.ClassDefinitions.{Read, list_of, kind_of, may_be_quoted, list_field, of_element, or_kind, or_list, field_of, field_at}
use Rattle.definitions.specs.Tokens.{Token, Word, Begins, AreTokens}
use Rattle.definitions.specs.Grammar.{IsNothing, IsElementField}
use Rattle.definitions.specs.ClassGrammar.{AreListed, list_word, stands_quoted, kind_word, IsClassField}
use Rattle.definitions.proofs.There.{IfThere, chosen, bound, there}
use Rattle.definitions.proofs.Tokenized.{word_found, word_only}
use Rattle.definitions.proofs.NameLists.{listed_found, ListStands, listed_only}
use Rattle.definitions.proofs.Keywords.{lowered, ElementWord, element_word_apart}
use Rattle.definitions.proofs.ElementFields.{FieldReads, Headline, headline, no_end, nothing_more, something_more, ElementReads, element_found, Stands, element_only}

-- ---- words

same_list : (keyword word : List ℕ) → is_word keyword word ≡ true → list_of word ≡ list_of keyword
unfolding list_of
same_list keyword word h = rw (lowered keyword word h) refl

same_kind : (keyword word : List ℕ) → is_word keyword word ≡ true → kind_of word ≡ kind_of keyword
unfolding kind_of
same_kind keyword word h = rw (lowered keyword word h) refl

list_known : (which : ClassList) → list_of (list_word which) ≡ Some which
unfolding list_of
list_known lists.Superiors = refl
list_known lists.Must = refl
list_known lists.May = refl

kind_known : (kind : ClassKind) → kind_of (kind_word kind) ≡ Some kind
unfolding kind_of
kind_known kinds.Abstract = refl
kind_known kinds.Structural = refl
kind_known kinds.Auxiliary = refl

kind_no_list : (kind : ClassKind) → list_of (kind_word kind) ≡ None
unfolding list_of
kind_no_list kinds.Abstract = refl
kind_no_list kinds.Structural = refl
kind_no_list kinds.Auxiliary = refl

element_no_list : (word : List ℕ) → ElementWord word → list_of word ≡ None
unfolding list_of
element_no_list word which =
    (λ i. cond (element_word_apart word which (codes "SUP") refl refl refl refl i) (Some lists.Superiors)
    (cond (element_word_apart word which (codes "MUST") refl refl refl refl i) (Some lists.Must)
    (cond (element_word_apart word which (codes "MAY") refl refl refl refl i) (Some lists.May) None)))

element_no_kind : (word : List ℕ) → ElementWord word → kind_of word ≡ None
unfolding kind_of
element_no_kind word which =
    (λ i. cond (element_word_apart word which (codes "ABSTRACT") refl refl refl refl i) (Some kinds.Abstract)
    (cond (element_word_apart word which (codes "STRUCTURAL") refl refl refl refl i) (Some kinds.Structural)
    (cond (element_word_apart word which (codes "AUXILIARY") refl refl refl refl i) (Some kinds.Auxiliary) None)))

same_quotes : (which : ClassList) → stands_quoted which ≡ may_be_quoted which
same_quotes lists.Superiors = refl
same_quotes lists.Must = refl
same_quotes lists.May = refl

-- ---- what stands there is read

module _ (text word rest : List ℕ) (begins : Begins text (Word word) rest) where
  at_word : field_at text ≡ field_of (word, rest)
  unfolding field_at
  at_word = ap (λ (o : Option Cut). o >>> field_of) (word_found text word rest begins)

  abbrev inner : Option Read
  inner = element_field sorts.ObjectClass word rest >>> of_element

  at_list : (which : ClassList) → list_of word ≡ Some which → field_at text ≡ (names_at (stands_quoted which) rest >>> list_field which)
  at_list which e =
      at_word ∙ ap (λ (o : Option ClassList). or_list o rest (or_kind (kind_of word) rest inner)) e ∙ ap (λ (quotes : Bool). names_at quotes rest >>> list_field which) (sym (same_quotes which))

  at_kind : (kind : ClassKind) → list_of word ≡ None → kind_of word ≡ Some kind → field_at text ≡ Some (fields.Kind kind, rest)
  at_kind kind e f = at_word ∙ (λ i. or_list (e i) rest (or_kind (f i) rest inner))

  at_element : list_of word ≡ None → kind_of word ≡ None → field_at text ≡ inner
  at_element e f = at_word ∙ (λ i. or_list (e i) rest (or_kind (f i) rest inner))

abbrev ClassReads : ClassField → List ℕ → List Token → Type 0
ClassReads field text tokens = FieldReads field_at field text tokens

element_class : (field : ElementField) (text : List ℕ) (tokens : List Token) → ElementReads sorts.ObjectClass field text tokens → ClassReads (fields.Element field) text tokens
element_class field text tokens e =
    record {
      reads = record {
        rest = e.reads.rest;
        is = at_element text e.word e.rest e.begins (element_no_list e.word e.which) (element_no_kind e.word e.which) ∙ ap (λ (o : Option elements.Read). o >>> of_element) e.reads.is;
        fewer = e.reads.fewer;
        left = e.reads.left;
      };
      on = no_end text e.word e.rest e.begins;
    }

list_class : (which : ClassList) (names : List (List ℕ)) (text : List ℕ) (tokens : List Token) → Headline (list_word which) (AreListed (stands_quoted which) names) tokens text → ClassReads (fields.List which names) text tokens
list_class which names text tokens h =
    record {
      reads = something_more (names_at (stands_quoted which) h.rest) names (field_at text) (fields.List which names) text h.word h.rest tokens h.begins (listed_found (stands_quoted which) names h.front tokens h.rest h.form h.left) (λ e.
          at_list text h.word h.rest h.begins which (same_list (list_word which) h.word h.same ∙ list_known which) ∙ ap (λ (o : Option Cuts). o >>> list_field which) e);
      on = no_end text h.word h.rest h.begins;
    }

kind_class : (kind : ClassKind) (text : List ℕ) (tokens : List Token) → Headline (kind_word kind) IsNothing tokens text → ClassReads (fields.Kind kind) text tokens
kind_class kind text tokens h =
    record {
      reads = nothing_more (field_at text) (fields.Kind kind) text h.word h.rest h.front tokens h.begins h.form h.left
          (at_kind text h.word h.rest h.begins kind (same_list (kind_word kind) h.word h.same ∙ kind_no_list kind) (same_kind (kind_word kind) h.word h.same ∙ kind_known kind));
      on = no_end text h.word h.rest h.begins;
    }

pub class_field_found : (field : ClassField) (front tokens : List Token) (text : List ℕ) → IsClassField field front → AreTokens (front ++ tokens) text → FieldReads field_at field text tokens
class_field_found (fields.Element field) front tokens text is h = element_class field text tokens (element_found sorts.ObjectClass field front tokens text is h)
class_field_found (fields.List which names) front tokens text is h = list_class which names text tokens (headline (list_word which) (AreListed (stands_quoted which) names) front tokens text is h)
class_field_found (fields.Kind kind) front tokens text is h = kind_class kind text tokens (headline (kind_word kind) IsNothing front tokens text is h)

-- ---- what is read stands there

list_is : (word : List ℕ) → IfThere (λ which. is_word (list_word which) word ≡ true) (list_of word)
unfolding list_of
list_is word =
    let P = λ (which : ClassList). is_word (list_word which) word ≡ true in
    chosen P (is_word (codes "SUP") word) (Some lists.Superiors) _ (λ e. e) (λ e.
    chosen P (is_word (codes "MUST") word) (Some lists.Must) _ (λ e. e) (λ e.
    chosen P (is_word (codes "MAY") word) (Some lists.May) None (λ e. e) (λ e. tt)))

kind_is : (word : List ℕ) → IfThere (λ kind. is_word (kind_word kind) word ≡ true) (kind_of word)
unfolding kind_of
kind_is word =
    let P = λ (kind : ClassKind). is_word (kind_word kind) word ≡ true in
    chosen P (is_word (codes "ABSTRACT") word) (Some kinds.Abstract) _ (λ e. e) (λ e.
    chosen P (is_word (codes "STRUCTURAL") word) (Some kinds.Structural) _ (λ e. e) (λ e.
    chosen P (is_word (codes "AUXILIARY") word) (Some kinds.Auxiliary) None (λ e. e) (λ e. tt)))

module _ (text : List ℕ) (w : Cut) (begins : Begins text (Word w.0) w.1) where
  abbrev Field : Read → Type 0
  Field read = Stands IsClassField text read

  by_element : (o : Option elements.Read) → IfThere (Stands (IsElementField sorts.ObjectClass) text) o → IfThere Field (o >>> of_element)
  by_element None h = tt
  by_element (Some read) h = record { front = h.front; is = h.is; behind = h.behind }

  by_kind : (kind : Option ClassKind) → IfThere (λ kind. is_word (kind_word kind) w.0 ≡ true) kind → IfThere Field (or_kind kind w.1 (element_field sorts.ObjectClass w.0 w.1 >>> of_element))
  by_kind None h = by_element (element_field sorts.ObjectClass w.0 w.1) (element_only sorts.ObjectClass text w.0 w.1 begins)
  by_kind (Some kind) h =
      record {
        front = Word w.0 ∷ [];
        is = record { text = w.0; rest = []; tokens_are = refl; same = h; behind = refl };
        behind = λ tokens left. (w.1, begins, left);
      }

  by_list : (which : Option ClassList) → IfThere (λ which. is_word (list_word which) w.0 ≡ true) which
      → IfThere Field (or_list which w.1 (or_kind (kind_of w.0) w.1 (element_field sorts.ObjectClass w.0 w.1 >>> of_element)))
  by_list None h = by_kind (kind_of w.0) (kind_is w.0)
  by_list (Some which) h =
      bound Field (names_at (may_be_quoted which) w.1) (list_field which) (λ x e.
      let s = there (ListStands (may_be_quoted which) w.1) (names_at (may_be_quoted which) w.1) x e (listed_only (may_be_quoted which) w.1) in
      record {
        front = Word w.0 ∷ s.front;
        is = record { text = w.0; rest = s.front; tokens_are = refl; same = h; behind = subst (λ (quotes : Bool). AreListed quotes x.0 s.front) (sym (same_quotes which)) s.are };
        behind = λ tokens left. (w.1, begins, s.behind tokens left);
      })

  pub at_word_only : IfThere Field (field_of w)
  at_word_only = by_list (list_of w.0) (list_is w.0)

pub class_field_only : (text : List ℕ) → IfThere (Stands IsClassField text) (field_at text)
unfolding field_at
class_field_only text =
    bound (Stands IsClassField text) (word_at text) field_of (λ w e.
    at_word_only text w (there (λ (v : Cut). Begins text (Word v.0) v.1) (word_at text) w e (word_only text)))
