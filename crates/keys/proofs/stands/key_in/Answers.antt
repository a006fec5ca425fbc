-- A part of s.
use Rattle.keys.specs.Stands.{start_of, key_in}
use borrow.Author.Rules.{rules}
use Rattle.keys.proofs.stands.key_in.Goals as goal

pub overflow_mul-start : goal.overflow_mul-start
unfolding start_of
overflow_mul-start c = search rules

pub overflow_add-start : goal.overflow_add-start
unfolding start_of
overflow_add-start c = search rules

pub overflow_add-start-2 : goal.overflow_add-start-2
unfolding start_of
overflow_add-start-2 c = search rules

pub part-requires : goal.part-requires
unfolding start_of
part-requires c = search rules

pub returns : goal.returns
unfolding key_in start_of
returns c = search rules
