-- Its laws are those of `path_data` and `path_words`, and of the pairs before a point.
mod PairLaws
