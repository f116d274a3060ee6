-- Laws of writing the spans.
mod ListingLaws
