-- RIPEMD-128, RIPEMD-160, RIPEMD-256 and RIPEMD-320, in the order in which to read them, as they are
-- defined by H. Dobbertin, A. Bosselaers and B. Preneel, "RIPEMD-160: A Strengthened Version of RIPEMD",
-- Fast Software Encryption (FSE) 1996, LNCS 1039, Springer, pp. 71-82. Comments cite it as 1996, with
-- the part. Padding and the order of bytes are those of MD4, and cite RFC 1320. ISO/IEC 10118-3 has
-- RIPEMD-160 and RIPEMD-128 too, as its dedicated hash-functions 1 and 2.
pub mod Words
pub mod Schedule
pub mod Compression
pub mod Hashing
pub use Words.{◌⊞◌, rol, block_size, message_word, word_bytes, eight_bytes}
pub use Schedule.{rho, pi, rotations, rotation, root_from, whole_root, prime, square_root_constant, cube_root_constant, f0, f1, f2, f3, f4, boolean_function, Line, left_line, right_line}
pub use Compression.{Parameters, start_words, second_start_words, word_sums, from_place, joint_state, double_state, ripemd128, ripemd160, ripemd256, ripemd320, step, round, Lines, exchange, lines_from}
unfoldable pub use Compression.{registers_after, lines_after, compress}
pub use Hashing.{length_place, zero_count, padded_message, walk, ripemd}
unfoldable pub use Hashing.{with_padding, blocks, partial_block, hash}
