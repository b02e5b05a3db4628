use Rattle.std.proofs.Common.{[], ◌∷◌, refl, sym, ap, ◌∙◌, inr}
use Rattle.filter_text.proofs.Runs.{tail_eq}
use Rattle.filter_text.proofs.ValueTexts.{escape_of, no_digit}
use Rattle.filter_text.proofs.values.byte_at.Goals as goal

pub returns-in_default-digit_at-clause-none : goal.returns-in_default-digit_at-clause-none
returns-in_default-digit_at-clause-none c b rest h =
    let escape = escape_of b c.args.bytes.now c.in-Some.more.now rest (c.in-Some.ensures.cases.0 ∙ ap (λ n. n ∷ c.in-Some.more.now) c.if-first-ne92.false) h in
    no_digit (c.in_default-digit_at.ensures.read escape.0 (escape.1 ∷ rest) escape.4) escape.5

pub returns-in_default-digit_at-clause-front : goal.returns-in_default-digit_at-clause-front
returns-in_default-digit_at-clause-front c =
    record {
      done = 92 ∷ [];
      rest = c.in-Some.more.now;
      all = c.in-Some.ensures.cases.0 ∙ ap (λ b. b ∷ c.in-Some.more.now) c.if-first-ne92.false;
      from_end = refl;
      more = 48 ∷ 48 ∷ [];
      viable = (0, inr (48, 48, 0, 0, refl, refl, refl, refl));
    }

pub returns-in_default-digit_at-2-clause-none : goal.returns-in_default-digit_at-2-clause-none
returns-in_default-digit_at-2-clause-none c b rest h =
    let high = c.in-Some-digit_at.ensures.read in
    let escape = escape_of b c.args.bytes.now c.in-Some.more.now rest (c.in-Some.ensures.cases.0 ∙ ap (λ n. n ∷ c.in-Some.more.now) c.if-first-ne92.false) h in
    no_digit (c.in_default-digit_at-2.ensures.read escape.1 rest (tail_eq (sym high.1 ∙ escape.4))) escape.6

pub returns-in_default-digit_at-2-clause-front : goal.returns-in_default-digit_at-2-clause-front
returns-in_default-digit_at-2-clause-front c =
    let high = c.in-Some-digit_at.ensures.read in
    record {
      done = 92 ∷ high.0 ∷ [];
      rest = c.in-Some-digit_at.low.now;
      all = c.in-Some.ensures.cases.0 ∙ ap (λ b. b ∷ c.in-Some.more.now) c.if-first-ne92.false ∙ ap (λ xs. 92 ∷ xs) high.1;
      from_end = refl;
      more = 48 ∷ [];
      viable = (_, inr (high.0, 48, c.in-Some-digit_at.tens, 0, refl, high.2, refl, refl));
    }

pub returns-clause-found : goal.returns-clause-found
returns-clause-found c =
    let high = c.in-Some-digit_at.ensures.read in
    let low = c.in-Some-digit_at-2.ensures.read in
    inr (
      high.0,
      low.0,
      c.in-Some-digit_at.tens,
      c.in-Some-digit_at-2.ones,
      c.in-Some.ensures.cases.0 ∙ ap (λ b. b ∷ c.in-Some.more.now) c.if-first-ne92.false ∙ ap (λ xs. 92 ∷ xs) (high.1 ∙ ap (λ xs. high.0 ∷ xs) low.1),
      high.2,
      low.2,
      refl,
    )
