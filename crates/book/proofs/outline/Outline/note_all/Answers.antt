use Rattle.std.proofs.Common.{rules, ◌≡◌, ◌∙◌, ap, arith, ◌||◌, length, refl}
use Rattle.book.specs.Lists.{keep, from, up_to}
use Rattle.book.specs.Outline.{◌!◌, numbers_of}
use Rattle.book.specs.Faults.{is_declaration}
use Rattle.book.specs.Noted.{is_outside, declares, is_item}
use Rattle.book.proofs.Noting.{declares_is, outside_is, noted_more}
use Rattle.book.proofs.outline.Outline.note_all.Goals as goal

pub loop-n-init : goal.loop-n-init
unfolding keep from
loop-n-init g c = record {
  declared_is = refl;
  noted_is = refl;
  few = omega arith;
  few_too = omega arith;
  room = search rules;
  room_too = search rules;
}

pub loop-n-preserved : goal.loop-n-preserved
loop-n-preserved g c =
    let read = c.laws.ensures in
    let kind = c.kind-kind.ensures in
    let less = c.loop-n-test.true in
    record {
      declared_is = c.note-declared.ensures.list ∙ noted_more (λ n. is_declaration (c.args.few.book.now ! n)) c.loop-n.n (c.declares.ensures ∙ ap declares kind ∙ declares_is _ read c.loop-n.n (omega (arith, c.len-n-end.ensures.value))) c.loop-n.invariant.declared_is;
      noted_is = c.note-noted.ensures.list ∙ noted_more (λ n. is_outside (c.args.few.book.now ! n)) c.loop-n.n (c.is_outside.ensures ∙ ap (λ k. declares k || is_item k) kind ∙ outside_is _ read c.loop-n.n (omega (arith, c.len-n-end.ensures.value))) c.loop-n.invariant.noted_is;
      few = omega (arith, c.note-declared.ensures.count);
      few_too = omega (arith, c.note-noted.ensures.count);
      room = omega (arith, c.note-declared.auto.list);
      room_too = omega (arith, c.note-noted.auto.list);
    }

pub returns : goal.returns
unfolding numbers_of
returns g c =
    let all : c.loop-n.n ≡ length c.args.few.book.now.records = omega arith in
    (λ i. record { declarations = (c.loop-n.invariant.declared_is ∙ ap (λ n. keep (λ n. is_declaration (c.args.few.book.now ! n)) (up_to n)) all) i; outside = (c.loop-n.invariant.noted_is ∙ ap (λ n. keep (λ n. is_outside (c.args.few.book.now ! n)) (up_to n)) all) i })
