-- A field of a type or class as such is read exactly where it stands.
use Rattle.std.proofs.Common.{◌≡◌, sym, ℕ, Bool, true, false, cond, List, [], ◌∷◌, ◌++◌, Option, Some, None, inl, inr, refl, ap, subst, ◌∙◌, arith}
use Rattle.std.specs.Prelude.{codes}
use Rattle.std.specs.List.{list_all}
use Rattle.definitions.specs.declared.element.Sort.{Sort}
use Rattle.definitions.specs.declared.element.ElementField.{ElementField}
use Rattle.definitions.specs.declared.element.ElementField.TheVariants as fields
use Rattle.definitions.specs.Words.{◌>>>◌, Cut, quoted_at}
use Rattle.definitions.specs.Texts.{Cuts, quoted_texts_at}
use Rattle.definitions.specs.Elements.{Read, is_word, is_extension, is_allowed, names_field, description_field, extension_field, element_field, is_end, ends_there}
use Rattle.definitions.specs.Tokens.{Token, Quoted, Word, Begins, AreTokens}
use Rattle.definitions.specs.Grammar.{Headed, IsNothing, IsText, AreNames, IsExtension, IsElementField}
use Rattle.definitions.proofs.There.{IfThere, chosen, bound, there}
use Rattle.definitions.proofs.Tokenized.{shorter, word_no_sign, quoted_found, quoted_only}
use Rattle.definitions.proofs.Listed.{Reads, texts_found, TextsStand, texts_only}
use Rattle.definitions.proofs.Keywords.{same_word, no_keyword, extension_is, ElementWord}

-- ---- a word, and what stands behind it

-- a keyword stands there, and behind it tokens of that form, and then others
pub record Headline (keyword : List ℕ) (Behind : List Token → Type 0) (tokens : List Token) (text : List ℕ) : Type 0 where
  pub word : List ℕ
  pub rest : List ℕ
  pub begins : Begins text (Word word) rest
  pub same : is_word keyword word ≡ true
  pub front : List Token
  pub form : Behind front
  pub left : AreTokens (front ++ tokens) rest

pub headline : (keyword : List ℕ) (Behind : List Token → Type 0) (front tokens : List Token) (text : List ℕ) → Headed keyword Behind front → AreTokens (front ++ tokens) text → Headline keyword Behind tokens text
headline keyword Behind front tokens text headed h =
    let k = subst (λ (ts : List Token). AreTokens (ts ++ tokens) text) headed.tokens_are h in
    record { word = headed.text; rest = k.0; begins = k.1; same = headed.same; front = headed.rest; form = headed.behind; left = k.2 }

-- no definition ends where a word stands
pub no_end : (text word rest : List ℕ) → Begins text (Word word) rest → ends_there text ≡ false
no_end text word rest begins = ap is_end (word_no_sign 41 text word rest refl begins)

-- nothing more is read
pub nothing_more : {A : Type 0} (read : Option (A × List ℕ)) (x : A) (text word rest : List ℕ) (front tokens : List Token) → Begins text (Word word) rest → front ≡ [] → AreTokens (front ++ tokens) rest → read ≡ Some (x, rest) → Reads read x text tokens
nothing_more read x text word rest front tokens begins none left is =
    record { rest = rest; is = is; fewer = shorter text (Word word) rest begins; left = subst (λ (ts : List Token). AreTokens (ts ++ tokens) rest) none left }

-- something more is read
pub something_more : {A B : Type 0} (inner : Option (A × List ℕ)) (x : A) (read : Option (B × List ℕ)) (y : B) (text word rest : List ℕ) (tokens : List Token) → Begins text (Word word) rest → (reads : Reads inner x rest tokens)
    → (inner ≡ Some (x, reads.rest) → read ≡ Some (y, reads.rest)) → Reads read y text tokens
something_more inner x read y text word rest tokens begins reads f =
    record { rest = reads.rest; is = f reads.is; fewer = omega (arith, reads.fewer, shorter text (Word word) rest begins); left = reads.left }

-- ---- what stands there is read

-- a field is read, and no definition ends there
pub record FieldReads {F : Type 0} (field_at : List ℕ → Option (F × List ℕ)) (field : F) (text : List ℕ) (tokens : List Token) : Type 0 where
  pub reads : Reads (field_at text) field text tokens
  pub on : ends_there text ≡ false

module _ (sort : Sort) (word rest : List ℕ) where
  abbrev by_tests : Bool → Bool → Bool → Bool → Option Read
  by_tests name description obsolete extension =
      cond name (quoted_texts_at rest >>> names_field sort)
      (cond description (quoted_at rest >>> description_field)
      (cond obsolete (Some (fields.Obsolete, rest))
      (cond extension (quoted_texts_at rest >>> extension_field word) None)))

  by_word : element_field sort word rest ≡ by_tests (is_word (codes "NAME") word) (is_word (codes "DESC") word) (is_word (codes "OBSOLETE") word) (is_extension word)
  unfolding element_field
  by_word = refl

  names_read : is_word (codes "NAME") word ≡ true → element_field sort word rest ≡ (quoted_texts_at rest >>> names_field sort)
  names_read e = by_word ∙ (λ i. by_tests (e i) (is_word (codes "DESC") word) (is_word (codes "OBSOLETE") word) (is_extension word))

  description_read : is_word (codes "DESC") word ≡ true → element_field sort word rest ≡ (quoted_at rest >>> description_field)
  description_read e = by_word ∙ (λ i. by_tests (same_word (codes "DESC") word e (codes "NAME") i) (e i) (is_word (codes "OBSOLETE") word) (is_extension word))

  obsolete_read : is_word (codes "OBSOLETE") word ≡ true → element_field sort word rest ≡ Some (fields.Obsolete, rest)
  obsolete_read e = by_word ∙ (λ i. by_tests (same_word (codes "OBSOLETE") word e (codes "NAME") i) (same_word (codes "OBSOLETE") word e (codes "DESC") i) (e i) (is_extension word))

  extension_read : is_extension word ≡ true → element_field sort word rest ≡ (quoted_texts_at rest >>> extension_field word)
  extension_read e = by_word ∙ (λ i. by_tests (no_keyword word e (codes "NAME") refl i) (no_keyword word e (codes "DESC") refl i) (no_keyword word e (codes "OBSOLETE") refl i) (e i))

-- a field that stands at a word
pub record ElementReads (sort : Sort) (field : ElementField) (text : List ℕ) (tokens : List Token) : Type 0 where
  pub word : List ℕ
  pub rest : List ℕ
  pub begins : Begins text (Word word) rest
  pub which : ElementWord word
  pub reads : Reads (element_field sort word rest) field text tokens

abbrev some_read : Read → Option Read
some_read read = Some read

names_found : (sort : Sort) (names : List (List ℕ)) (tokens : List Token) (text : List ℕ) → Headline (codes "NAME") (AreNames sort names) tokens text → ElementReads sort (fields.Names names) text tokens
names_found sort names tokens text h =
    record {
      word = h.word;
      rest = h.rest;
      begins = h.begins;
      which = inl (inl h.same);
      reads = let inner = texts_found names h.front tokens h.rest h.form.0 h.left in
          something_more (quoted_texts_at h.rest) names (element_field sort h.word h.rest) (fields.Names names) text h.word h.rest tokens h.begins inner (λ e.
          names_read sort h.word h.rest h.same ∙ ap (λ (o : Option Cuts). o >>> names_field sort) e ∙ ap (λ (t : Bool). cond t (some_read (fields.Names names, inner.rest)) None) h.form.1);
    }

description_found : (sort : Sort) (tokens : List Token) (text : List ℕ) → Headline (codes "DESC") IsText tokens text → ElementReads sort fields.Description text tokens
description_found sort tokens text h =
    let k = subst (λ (ts : List Token). AreTokens (ts ++ tokens) h.rest) h.form.1 h.left in
    record {
      word = h.word;
      rest = h.rest;
      begins = h.begins;
      which = inl (inr h.same);
      reads = record {
        rest = k.0;
        is = description_read sort h.word h.rest h.same ∙ ap (λ (o : Option Cut). o >>> description_field) (quoted_found h.rest h.form.0 k.0 k.1);
        fewer = omega (arith, shorter text (Word h.word) h.rest h.begins, shorter h.rest (Quoted h.form.0) k.0 k.1);
        left = k.2;
      };
    }

obsolete_found : (sort : Sort) (tokens : List Token) (text : List ℕ) → Headline (codes "OBSOLETE") IsNothing tokens text → ElementReads sort fields.Obsolete text tokens
obsolete_found sort tokens text h =
    record {
      word = h.word;
      rest = h.rest;
      begins = h.begins;
      which = inr (inl h.same);
      reads = nothing_more (element_field sort h.word h.rest) fields.Obsolete text h.word h.rest h.front tokens h.begins h.form h.left (obsolete_read sort h.word h.rest h.same);
    }

extension_found : (sort : Sort) (name : List ℕ) (front tokens : List Token) (text : List ℕ) → IsExtension name front → AreTokens (front ++ tokens) text → ElementReads sort (fields.Extension name) text tokens
extension_found sort name front tokens text is h =
    let k = subst (λ (ts : List Token). AreTokens (ts ++ tokens) text) is.tokens_are h in
    record {
      word = name;
      rest = k.0;
      begins = k.1;
      which = inr (inr (extension_is name ∙ is.name_is));
      reads = something_more (quoted_texts_at k.0) is.texts.0 (element_field sort name k.0) (fields.Extension name) text name k.0 tokens k.1 (texts_found is.texts.0 is.rest tokens k.0 is.texts.1 k.2) (λ e.
          extension_read sort name k.0 (extension_is name ∙ is.name_is) ∙ ap (λ (o : Option Cuts). o >>> extension_field name) e);
    }

pub element_found : (sort : Sort) (field : ElementField) (front tokens : List Token) (text : List ℕ) → IsElementField sort field front → AreTokens (front ++ tokens) text → ElementReads sort field text tokens
element_found sort (fields.Names names) front tokens text is h = names_found sort names tokens text (headline (codes "NAME") (AreNames sort names) front tokens text is h)
element_found sort fields.Description front tokens text is h = description_found sort tokens text (headline (codes "DESC") IsText front tokens text is h)
element_found sort fields.Obsolete front tokens text is h = obsolete_found sort tokens text (headline (codes "OBSOLETE") IsNothing front tokens text is h)
element_found sort (fields.Extension name) front tokens text is h = extension_found sort name front tokens text is h

-- ---- what is read stands there

-- tokens of a field, and behind them what comes behind it
pub record Stands {F : Type 0} (IsField : F → List Token → Type 0) (text : List ℕ) (read : F × List ℕ) : Type 0 where
  pub front : List Token
  pub is : IsField read.0 front
  pub behind : (tokens : List Token) → AreTokens tokens read.1 → AreTokens (front ++ tokens) text

pub element_only : (sort : Sort) (text word rest : List ℕ) → Begins text (Word word) rest → IfThere (Stands (IsElementField sort) text) (element_field sort word rest)
unfolding element_field
element_only sort text word rest begins =
    let P = Stands (IsElementField sort) text in
    chosen P (is_word (codes "NAME") word) _ _ (λ e.
    bound P (quoted_texts_at rest) (names_field sort) (λ x f.
    let s = there (TextsStand rest) (quoted_texts_at rest) x f (texts_only rest) in
    chosen P (list_all (is_allowed sort) x.0) (Some (fields.Names x.0, x.1)) None (λ g.
    record {
      front = Word word ∷ s.front;
      is = record { text = word; rest = s.front; tokens_are = refl; same = e; behind = (s.are, g) };
      behind = λ tokens left. (rest, begins, s.behind tokens left);
    }) (λ g. tt))) (λ not_name.
    chosen P (is_word (codes "DESC") word) _ _ (λ e.
    bound P (quoted_at rest) description_field (λ x f.
    record {
      front = Word word ∷ Quoted x.0 ∷ [];
      is = record { text = word; rest = Quoted x.0 ∷ []; tokens_are = refl; same = e; behind = (x.0, refl) };
      behind = λ tokens left. (rest, begins, (x.1, there (λ (w : Cut). Begins rest (Quoted w.0) w.1) (quoted_at rest) x f (quoted_only rest), left));
    })) (λ not_description.
    chosen P (is_word (codes "OBSOLETE") word) (Some (fields.Obsolete, rest)) _ (λ e.
    record {
      front = Word word ∷ [];
      is = record { text = word; rest = []; tokens_are = refl; same = e; behind = refl };
      behind = λ tokens left. (rest, begins, left);
    }) (λ not_obsolete.
    chosen P (is_extension word) (quoted_texts_at rest >>> extension_field word) None (λ e.
    bound P (quoted_texts_at rest) (extension_field word) (λ x f.
    let s = there (TextsStand rest) (quoted_texts_at rest) x f (texts_only rest) in
    record {
      front = Word word ∷ s.front;
      is = record { rest = s.front; tokens_are = refl; name_is = sym (extension_is word) ∙ e; texts = (x.0, s.are) };
      behind = λ tokens left. (rest, begins, s.behind tokens left);
    })) (λ not_extension. tt))))
