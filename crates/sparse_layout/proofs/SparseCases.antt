-- The cases of a sparse book's checks compute.
use mathlib.Core.Path.{refl}
use Rattle.integer.specs.Index.{all}
use Rattle.integer.specs.Order.{eq_z}
use Rattle.model.specs.Box.{box_of, empty_box, is_empty, same_list}
use Rattle.model.specs.Checks.{bits, box_checks, first, in_range, narrow, number_checks, ordered, size_checks}
use Rattle.little_endian.specs.Bytes.{bytes_of, integer_at, integers_at, number_at, number_of, signed_of}
use Rattle.little_endian.specs.Pieces.{joined}
use Rattle.book.specs.Book.{bounds_of, trailer_bytes, trailer_of}
use Rattle.book.specs.BookChecks.{given_length_checks}
use Rattle.sparse_layout.specs.SparseBook.{column_at, count_at, decode_sparse, dense_at, is_zero, kind_at, row_start, sparse_coefs_of, sparse_kinds_of, sparse_model_in, sparse_rhs_of, value_at}
use Rattle.sparse_layout.specs.SparseCases.{CasesHold, book_of, entry, fault_of, row_of_bytes}
use Rattle.sparse_layout.specs.SparseChecks.{all_entry_checks, entry_checks, rises_at, row_entry_checks, sparse_checks, sparse_fault, sparse_frame_checks, sparse_head_checks, sparse_layout_checks, sparse_offset_checks, walk_checks}

pub cases-hold : CasesHold
unfolding all eq_z box_of empty_box is_empty same_list bits box_checks first in_range narrow number_checks ordered size_checks bounds_of trailer_of trailer_bytes given_length_checks bytes_of integer_at integers_at number_at number_of signed_of joined column_at count_at decode_sparse dense_at is_zero kind_at row_start sparse_coefs_of sparse_kinds_of sparse_model_in sparse_rhs_of value_at book_of entry fault_of row_of_bytes all_entry_checks entry_checks rises_at row_entry_checks sparse_checks sparse_fault sparse_frame_checks sparse_head_checks sparse_layout_checks sparse_offset_checks walk_checks
cases-hold = refl
