-- `lower_book`, and all that it takes to compute it.
-- Assumes nothing.
use Rattle.std.specs.Prelude.{ℕ}
use mathlib.Core.List.{List, flat_map}
use Rattle.std.proofs.Math.Option.{or_else}
use Rattle.record.specs.Bytes.{little_endian, little_bytes}
use Rattle.record.specs.Layout.{decode_record, encode_record, record_at}
use Rattle.record.specs.Check.{words, ones_sum, checksum, block_words, block_check, check_holds}
use Rattle.arith.specs.Word.{signed, as_i64, word}
use Rattle.arith.specs.Checked.{fitting, checked_add, checked_sub, checked_mul, checked_div}
use Rattle.book.specs.Lists.{any, find, keep, keep_while, numbered_from, from}
use Rattle.book.specs.Shape.{allows, table, row_of, well_shaped, child_in, children, is_of}
use Rattle.book.specs.Blocks.{length_fault, block_fault, record_count, records, wildcards}
use Rattle.book.specs.Faults.{record_of, shape_fault, uses, used_before, used_twice, child_fault, before, first_is, may_follow}
use Rattle.book.specs.Faults.{follow_fault, name_set, name_fault, deeper_than, depth_fault}
use Rattle.book.specs.Refusal.{number, faulty, in_order, first_refusal}
use Rattle.book.specs.Outline.{read, numbers_of, notes, items}
use Rattle.constants.specs.Expr.{expr_of, expr_at, refs}
use Rattle.constants.specs.Eval.{store, literal_value, apply, apply_to, eval_const_expr}
use Rattle.constants.specs.Order.{declared_refs, repeats, admits, ready, order_from, order, settle, outcome}
use Rattle.constants.specs.OfBook.{constant_at, constants, settled}
use Rattle.types.specs.Lowering.{and_then, stop_number, run}
use Rattle.types.specs.Resolved.{entry, own_number, alias_of, pair_number, as_number, lookup, with_stub, with_pair, with_alias}
use Rattle.types.specs.Step.{for_each, emit_type, whole, over_one, over_two, poison}
use Rattle.types.specs.Numbers.{parameters, generic_aliases, plain_aliases, type_declarations, generic_at, generics}
use Rattle.types.specs.Numbers.{register_declarations}
use Rattle.types.specs.Resolve.{type_expr, first_of, find_name, resolve_name, find_qualified, resolve_qualified, find_head, resolve_by}
use Rattle.types.specs.Resolve.{resolve_type, resolve_type_expr, resolve_type_expr_with_substitution}
use Rattle.types.specs.Alias.{lower_alias}
use Rattle.bodies.specs.Encoding.{limit_in, compute_field_encoding, delta_rows, delta_inner, under_inner, under_delta, encoding_number}
use Rattle.bodies.specs.Encoding.{encoding_record}
use Rattle.bodies.specs.Constraint.{where_expr, lower_where_by, lower_where_expr}
use Rattle.bodies.specs.Constant.{tell_unless, constant_record, lower_constant, lower_constants, stored_count}
use Rattle.bodies.specs.Bodies.{unless_none, lower_field, first_string, lower_tombstone, lower_variant, lower_item, lower_message}
use Rattle.bodies.specs.Bodies.{lower_union, lower_newtype, lower_decl, lower_bodies}
use Rattle.record.specs.Write.{with_records, cleared}
use Rattle.lower.specs.LowerBook.{lower_records, ended, lower_read, lower_book}
use Rattle.lower.specs.LowerBook.{Outcome}
use Rattle.runs.specs.Books.{block_bytes, with_check, blocks_from}

-- a book's lowering; where this unfolds, all that follows does
unfoldable pub computed : List ℕ → List ℕ → List ℕ → Outcome
unfolding flat_map block_bytes with_check blocks_from little_endian little_bytes decode_record encode_record record_at words
    ones_sum checksum block_words block_check check_holds signed as_i64 word fitting checked_add checked_sub checked_mul
    checked_div any find keep keep_while numbered_from from allows table row_of well_shaped child_in children is_of length_fault
    block_fault record_count records wildcards record_of shape_fault uses used_before used_twice child_fault before first_is
    may_follow follow_fault name_set name_fault deeper_than depth_fault number faulty in_order first_refusal read numbers_of
    notes items expr_of expr_at refs store literal_value apply apply_to eval_const_expr declared_refs repeats admits ready
    order_from order settle outcome constant_at constants settled and_then stop_number run entry own_number alias_of
    pair_number as_number or_else lookup with_stub with_pair with_alias for_each emit_type whole over_one over_two poison
    parameters generic_aliases plain_aliases type_declarations generic_at generics register_declarations type_expr first_of
    find_name resolve_name find_qualified resolve_qualified find_head resolve_by resolve_type resolve_type_expr
    resolve_type_expr_with_substitution lower_alias limit_in compute_field_encoding delta_rows delta_inner under_inner under_delta
    encoding_number encoding_record where_expr lower_where_by lower_where_expr tell_unless constant_record lower_constant
    lower_constants stored_count unless_none lower_field first_string lower_tombstone lower_variant lower_item lower_message
    lower_union lower_newtype lower_decl lower_bodies lower_records with_records cleared ended lower_read lower_book
computed = lower_book
