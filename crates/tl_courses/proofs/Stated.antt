-- What the layers above may cite of this crate, by topic. All else is private to it.

-- Steps in some rows, and rows that stay.
pub use Rattle.tl_courses.proofs.Rows.{after-not_free, after-other_class, after-past, bits-past, class-size, rows-after}
-- The fixed strings of a course.
pub use Rattle.tl_courses.proofs.Held.{class-within, first-bound, free-of, low-of}
